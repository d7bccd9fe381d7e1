-- Groups: what a token does to those that are open, and where one ends.
use Rattle.std.specs.Prelude.{◌≡◌, ℕ, ◌<◌, List, [], ◌∷◌, ◌++◌, length, ◌≤◌, take, drop}
use Rattle.wire_format.specs.declared.token.Body.{Body}
use Rattle.wire_format.specs.declared.token.Body.TheVariants.{Plain, Start, End}
use Rattle.wire_format.specs.declared.open_groups.Nesting.{Nesting}
use Rattle.wire_format.specs.declared.open_groups.Nesting.TheVariants.{Fits, Stray, TooDeep}
use Rattle.wire_format.specs.Fields.{IsGroupOf, MayFill, MAX_NESTING}
use Rattle.wire_format.specs.Faults.{IsInnermost}

-- the groups that are open before and after a token of this number that may stand there
abbrev pub Nests : Body → ℕ → List ℕ → List ℕ → Type 0
Nests (Plain payload) number old new = new ≡ old
Nests Start number old new = (new ≡ old ++ number ∷ []) × (length old < MAX_NESTING)
Nests End number old new = old ≡ new ++ number ∷ []

-- what a token of this number does where these groups were open, and which then are
abbrev pub IsNested : Nesting → Body → ℕ → List ℕ → List ℕ → Type 0
IsNested Fits body number old new = Nests body number old new
IsNested Stray body number old new = (body ≡ End) × (IsInnermost old number → ⊥)
IsNested TooDeep body number old new = (body ≡ Start) × (length old ≡ MAX_NESTING)

-- a group whose start has this size, where its content ends, and where it does
abbrev pub IsGroupEnd : List ℕ → ℕ → ℕ → ℕ → ℕ → Type 0
IsGroupEnd bytes group start content size =
    (size ≤ length bytes) × (start ≤ content) × (content ≤ size)
    × IsGroupOf (MayFill MAX_NESTING) (take size bytes) group (drop start (take content bytes))
