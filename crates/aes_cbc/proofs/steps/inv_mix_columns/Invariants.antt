use Rattle.std.proofs.Common.{◌*◌}
use Rattle.aes_cbc.specs.Block.{mixed_byte}
use Rattle.aes_cbc.proofs.StepLemmas.{IsFilled}
use Rattle.aes_cbc.proofs.steps.inv_mix_columns.Given as goal

abbrev pub invariant-columns : goal.invariant-columns
invariant-columns l = IsFilled (mixed_byte 14 11 13 9 l.block) l.state (4 * l.column)
