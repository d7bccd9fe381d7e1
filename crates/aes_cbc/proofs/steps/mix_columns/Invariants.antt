use Rattle.std.proofs.Common.{◌*◌}
use Rattle.aes_cbc.specs.Block.{mixed_byte}
use Rattle.aes_cbc.proofs.StepLemmas.{IsFilled}
use Rattle.aes_cbc.proofs.steps.mix_columns.Given as goal

abbrev pub invariant-columns : goal.invariant-columns
invariant-columns l = IsFilled (mixed_byte 2 3 1 1 l.block) l.state (4 * l.column)
