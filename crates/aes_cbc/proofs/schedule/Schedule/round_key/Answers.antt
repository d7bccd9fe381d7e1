use Rattle.std.proofs.Common.{arith}
use Rattle.aes_cbc.proofs.WordLemmas.{round_key_from}
use Rattle.aes_cbc.proofs.schedule.Schedule.round_key.Goals as goal

pub returns : goal.returns
returns c = round_key_from c.args.self.now c.args.round c.bytes.key c.bytes.invariant.0 (λ k small. c.bytes.invariant.1 k (omega arith))
