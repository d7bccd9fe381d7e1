use Rattle.std.proofs.Common.{◌≡◌, ℕ, get_or, ap, arith}
use Rattle.aes_cbc.specs.Block.{mixed_byte, mixed_column}
use Rattle.aes_cbc.proofs.StepLemmas.{filled_column, mixed_from}
use Rattle.aes_cbc.proofs.steps.mix_columns.Goals as goal

pub columns-preserved : goal.columns-preserved
columns-preserved c =
    let is : (r : ℕ) → get_or c.mixed_column.result r 0 ≡ get_or (mixed_column 2 3 1 1 c.args.block.now c.columns.column) r 0 =
    λ r. ap (λ t. get_or t r 0) c.mixed_column.ensures in
    filled_column (mixed_byte 2 3 1 1 c.args.block.now) c.columns.state c.columns.column _ _ _ _ (omega arith) c.columns.invariant (is 0) (is 1) (is 2) (is 3)

pub returns : goal.returns
returns c = mixed_from 2 3 1 1 c.args.block.now c.columns.state c.columns.column (omega arith) c.columns.invariant
