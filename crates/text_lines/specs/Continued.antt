-- What a text may be after something could not be written to it.
use Rattle.std.specs.Prelude.{◌≡◌, ℕ, List, ◌++◌}

-- the new text begins with all of the old one
pub record Continues (old new : List ℕ) : Type 0 where
  pub more : List ℕ
  pub is : new ≡ old ++ more
