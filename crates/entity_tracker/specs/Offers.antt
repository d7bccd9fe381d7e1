-- The values that were offered of a key.
use Rattle.std.specs.Prelude.{ℕ, ◌<◌, ◌≤◌, List, [], ◌∷◌, length}
use Rattle.std.specs.List.{AllByRecursion}
use Rattle.sync_model.specs.declared.state.Offered.{Offered}
use Rattle.sync_model.specs.KeyStates.{MAX_OFFERED}

-- each number is below those after it
abbrev pub Ascend : List Offered → Type 0
Ascend [] = Unit {0}
Ascend (pair ∷ pairs) = AllByRecursion (λ (later : Offered). pair.number < later.number) pairs × Ascend pairs

-- the offered values of a key whose edits have numbers up to the last one
pub record IsOfferedBy (last : ℕ) (pairs : List Offered) : Type 0 where
  pub ascend : Ascend pairs
  pub few : length pairs ≤ MAX_OFFERED
  pub made : AllByRecursion (λ (pair : Offered). pair.number ≤ last) pairs
