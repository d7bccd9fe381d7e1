use Rattle.std.proofs.Common.{arith}
use Rattle.aes_cbc.proofs.StepLemmas.{substituted_from}
use Rattle.aes_cbc.proofs.steps.substitute.Goals as goal

pub returns : goal.returns
returns c = substituted_from c.args.block.now c.bytes.state c.told-block c.bytes.invariant.0 (λ k small. c.bytes.invariant.1 k (omega arith))
