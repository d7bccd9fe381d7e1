use Rattle.std.proofs.Common.{arith}
use Rattle.aes_cbc.proofs.RoundLemmas.{first_inv_state, next_inv_state, last_inv_state}
use Rattle.aes_cbc.proofs.schedule.Schedule.decrypt_block.Goals as goal

pub rounds-init : goal.rounds-init
rounds-init c = first_inv_state c.args.self.now c.args.block.now c.round_key.result c.sum_of_blocks-state.result c.round_key.ensures c.sum_of_blocks-state.ensures

pub rounds-preserved : goal.rounds-preserved
rounds-preserved c =
    next_inv_state c.args.self.now c.args.block.now c.rounds.round c.rounds.state c.restore.result c.round_key-in-rounds.result
    c.sum_of_blocks-keyed.result c.inv_mix_columns-state.result c.rounds.invariant c.restore.ensures
    c.round_key-in-rounds.ensures c.sum_of_blocks-keyed.ensures c.inv_mix_columns-state.ensures

pub returns : goal.returns
returns c =
    last_inv_state c.args.self.now c.args.block.now c.rounds.round c.rounds.state c.restore-2.result c.round_key-2.result c.sum_of_blocks.result
    (omega arith) c.rounds.invariant c.restore-2.ensures c.round_key-2.ensures c.sum_of_blocks.ensures
