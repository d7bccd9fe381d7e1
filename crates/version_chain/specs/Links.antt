-- How slots are linked. No public clause cites this module.
use Rattle.std.specs.Prelude.{◌≡◌, ◌≢◌, ℕ, zero, suc, ◌<◌, List, [], ◌∷◌, length, Option, Some, None, IfSome, slice_index_or}
use Rattle.std.specs.List.{AllByRecursion}
use Rattle.version_chain.specs.Slots.{AreApart}
use Rattle.version_chain.specs.declared.links.Link.{Link}

-- the link of a slot that is in no row
abbrev pub no_link : Link
no_link = record { previous = None; next = None }

-- what stands behind a place; the place None is the one before the first slot and behind the last
abbrev pub next_of : List Link → Link → Option ℕ → Option ℕ
next_of links ends None = ends.next
next_of links ends (Some slot) = (slice_index_or links slot no_link).next

-- what stands before a place
abbrev pub previous_of : List Link → Link → Option ℕ → Option ℕ
previous_of links ends None = ends.previous
previous_of links ends (Some slot) = (slice_index_or links slot no_link).previous

-- the place has a link
abbrev pub IsPlace : List Link → Option ℕ → Type 0
IsPlace links at = IfSome at (λ slot. slot < length links)

-- the new links lead from this place to that one, and from every other where the old ones do
pub record Joins (old new : Option ℕ → Option ℕ) (at to : Option ℕ) : Type 0 where
  pub here : new at ≡ to
  pub others : (other : Option ℕ) → other ≢ at → new other ≡ old other

-- the links lead where the old ones do
abbrev pub AreKept : (Option ℕ → Option ℕ) → (Option ℕ → Option ℕ) → Type 0
AreKept old new = (at : Option ℕ) → new at ≡ old at

-- the neighbours of a slot lead to each other, and every other place where it led
pub record Skips (next previous next' previous' : Option ℕ → Option ℕ) (slot : ℕ) : Type 0 where
  pub nexts : Joins next next' (previous (Some slot)) (next (Some slot))
  pub previouses : Joins previous previous' (next (Some slot)) (previous (Some slot))

-- The links of a slot that joins at the end: it stands behind the one that was last, and every other slot where it
-- stood.
pub record Appends (next previous next' previous' : Option ℕ → Option ℕ) (slot : ℕ) : Type 0 where
  pub into : next' (previous None) ≡ Some slot
  pub out : next' (Some slot) ≡ None
  pub back_into : previous' None ≡ Some slot
  pub back_out : previous' (Some slot) ≡ previous None
  pub nexts : (other : Option ℕ) → other ≢ previous None → other ≢ Some slot → next' other ≡ next other
  pub previouses : (other : Option ℕ) → other ≢ None → other ≢ Some slot → previous' other ≡ previous other

-- so many slots, read off the links from a place on
abbrev pub walk : (Option ℕ → Option ℕ) → ℕ → Option ℕ → List ℕ
walk next zero at = []
walk next (suc count) at = elim (next at) as (λ found. List ℕ) [ None ↦ [] | Some slot ↦ slot ∷ walk next count (Some slot) ]

-- the links lead from a place through these slots to the end, and back
abbrev pub IsChain : (Option ℕ → Option ℕ) → (Option ℕ → Option ℕ) → Option ℕ → List ℕ → Type 0
IsChain next previous at [] = (next at ≡ None) × (previous None ≡ at)
IsChain next previous at (slot ∷ slots) =
    (next at ≡ Some slot) × (previous (Some slot) ≡ at) × IsChain next previous (Some slot) slots

-- the slots of a row, in their order
abbrev pub slots_of : List Link → Link → ℕ → List ℕ
slots_of links ends len = walk (next_of links ends) len None

-- the slots are linked in their order, each once, and each has a link
pub record AreLinked (links : List Link) (ends : Link) (slots : List ℕ) : Type 0 where
  pub chained : IsChain (next_of links ends) (previous_of links ends) None slots
  pub apart : AreApart slots
  pub placed : AllByRecursion (λ slot. slot < length links) slots

-- a row of so many slots
pub record IsRow (links : List Link) (ends : Link) (len : ℕ) : Type 0 where
  pub linked : AreLinked links ends (slots_of links ends len)
  pub counted : length (slots_of links ends len) ≡ len
