use Rattle.std.proofs.Common.{arith}
use Rattle.aes_cbc.proofs.StepLemmas.{restored_from}
use Rattle.aes_cbc.proofs.steps.restore.Goals as goal

pub returns : goal.returns
returns c = restored_from c.args.block.now c.bytes.state c.bytes.invariant.0 (λ k small. c.bytes.invariant.1 k (omega arith))
