-- Slots in a row: which stands where.
use Rattle.std.specs.Prelude.{◌≡◌, ◌⊎◌, ℕ, ◌==◌, if◌then◌else◌, not, List, [], ◌∷◌, Option, Some, None, filter}

-- a slot is one of these
abbrev pub IsAmong : ℕ → List ℕ → Type 0
IsAmong slot [] = ⊥
IsAmong slot (first ∷ rest) = (first ≡ slot) ⊎ IsAmong slot rest

-- no slot is there twice
abbrev pub AreApart : List ℕ → Type 0
AreApart [] = Unit {0}
AreApart (first ∷ rest) = ¬ IsAmong first rest × AreApart rest

-- the slots without this one
abbrev pub without : ℕ → List ℕ → List ℕ
without slot slots = filter (λ other. not (other == slot)) slots

-- the first of some slots, if there is one
abbrev pub first_of : List ℕ → Option ℕ
first_of [] = None
first_of (first ∷ rest) = Some first

-- the last of some slots behind one, if there is one
abbrev pub last_behind : Option ℕ → List ℕ → Option ℕ
last_behind previous [] = previous
last_behind previous (first ∷ rest) = last_behind (Some first) rest

-- the last of some slots, if there is one
abbrev pub last_of : List ℕ → Option ℕ
last_of slots = last_behind None slots

-- the slot behind this one, if there is one
abbrev pub after : ℕ → List ℕ → Option ℕ
after slot [] = None
after slot (first ∷ rest) = if first == slot then first_of rest else after slot rest

-- the slot before this one in a row that stands behind another
abbrev pub before_from : Option ℕ → ℕ → List ℕ → Option ℕ
before_from previous slot [] = None
before_from previous slot (first ∷ rest) = if first == slot then previous else before_from (Some first) slot rest

-- the slot before this one, if there is one
abbrev pub before : ℕ → List ℕ → Option ℕ
before slot slots = before_from None slot slots
