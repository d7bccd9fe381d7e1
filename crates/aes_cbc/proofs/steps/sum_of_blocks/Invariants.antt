use Rattle.std.proofs.Common.{◌≡◌, ℕ, ◌<◌, length, get_or}
use Rattle.aes_cbc.specs.Field.{◌⊕◌}
use Rattle.aes_cbc.proofs.steps.sum_of_blocks.Given as goal

abbrev pub invariant-bytes : goal.invariant-bytes
invariant-bytes l = (length l.sum ≡ 16) × ((k : ℕ) → k < l.i → get_or l.sum k 0 ≡ get_or l.left k 0 ⊕ get_or l.right k 0)
