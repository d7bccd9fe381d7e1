use Rattle.std.proofs.Common.{arith}
use Rattle.aes_cbc.proofs.RoundLemmas.{first_state, next_state, last_state}
use Rattle.aes_cbc.proofs.schedule.Schedule.encrypt_block.Goals as goal

pub rounds-init : goal.rounds-init
rounds-init c = first_state c.args.self.now c.args.block.now c.round_key.result c.sum_of_blocks-state.result c.round_key.ensures c.sum_of_blocks-state.ensures

pub rounds-preserved : goal.rounds-preserved
rounds-preserved c =
    next_state c.args.self.now c.args.block.now c.rounds.round c.rounds.state c.substitute.result c.mix_columns-mixed.result
    c.round_key-in-rounds.result c.sum_of_blocks-state-in-rounds.result c.rounds.invariant c.substitute.ensures c.mix_columns-mixed.ensures
    c.round_key-in-rounds.ensures c.sum_of_blocks-state-in-rounds.ensures

pub returns : goal.returns
returns c =
    last_state c.args.self.now c.args.block.now c.rounds.round c.rounds.state c.substitute-2.result c.round_key-2.result c.sum_of_blocks.result
    (omega arith) c.rounds.invariant c.substitute-2.ensures c.round_key-2.ensures c.sum_of_blocks.ensures
