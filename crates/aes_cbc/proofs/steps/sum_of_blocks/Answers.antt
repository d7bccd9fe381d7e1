use Rattle.std.proofs.Common.{arith}
use Rattle.aes_cbc.proofs.StepLemmas.{sum_from}
use Rattle.aes_cbc.proofs.steps.sum_of_blocks.Goals as goal

pub returns : goal.returns
returns c = sum_from c.args.left.now c.args.right.now c.bytes.sum c.told-left c.told-right c.bytes.invariant.0 (λ k small. c.bytes.invariant.1 k (omega arith))
