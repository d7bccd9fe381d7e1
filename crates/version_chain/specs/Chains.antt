-- What contracts see of a chain: its items by ascending version.
use Rattle.std.specs.Prelude.{ℕ, ◌<◌, ◌==◌, List, [], ◌∷◌, length, map, take, filter, nat_lt, not, Option, max}
use Rattle.std.specs.List.{AllByRecursion, find}
use Rattle.std.specs.Option.{option_map}
use Rattle.version_chain.specs.Slots.{IsAmong, AreApart}

-- an item with its version, in the slot that it keeps
pub record Entry (T : Type 0) : Type 0 where
  pub slot : ℕ
  pub version : ℕ
  pub item : T

-- the entries of a chain in their order, and how many more there is room for
pub record Chained (T : Type 0) : Type 0 where
  pub entries : List (Entry T)
  pub spare : ℕ

-- the slots of some entries
abbrev pub slots_of : {T : Type 0} → List (Entry T) → List ℕ
slots_of entries = map (λ entry. entry.slot) entries

-- the version is above all of these entries
abbrev pub IsAbove : {T : Type 0} → ℕ → List (Entry T) → Type 0
IsAbove version entries = AllByRecursion (λ entry. entry.version < version) entries

-- the greatest version of some entries, 0 for none
abbrev pub greatest : {T : Type 0} → List (Entry T) → ℕ
greatest [] = 0
greatest (first ∷ rest) = max first.version (greatest rest)

-- the versions ascend
abbrev pub AreAscending : {T : Type 0} → List (Entry T) → Type 0
AreAscending [] = Unit {0}
AreAscending (first ∷ rest) = AllByRecursion (λ entry. first.version < entry.version) rest × AreAscending rest

-- the slots are the numbers below the number of the entries, each once
pub record AreSlots {T : Type 0} (entries : List (Entry T)) : Type 0 where
  pub apart : AreApart (slots_of entries)
  pub placed : AllByRecursion (λ entry. entry.slot < length entries) entries
  pub complete : (slot : ℕ) → slot < length entries → IsAmong slot (slots_of entries)

-- the entries without the one of this slot
abbrev pub without_slot : {T : Type 0} → ℕ → List (Entry T) → List (Entry T)
without_slot slot entries = filter (λ entry. not (entry.slot == slot)) entries

-- the item in a slot, if there is one
abbrev pub item_at : {T : Type 0} → ℕ → List (Entry T) → Option T
item_at slot entries = option_map (λ entry. entry.item) (find (λ entry. entry.slot == slot) entries)

-- the slots of the first of the entries that are above a mark, at most so many
abbrev pub slots_since : {T : Type 0} → ℕ → ℕ → List (Entry T) → List ℕ
slots_since mark max entries = take max (slots_of (filter (λ entry. nat_lt mark entry.version) entries))

-- how many entries are above a mark
abbrev pub count_since : {T : Type 0} → ℕ → List (Entry T) → ℕ
count_since mark entries = length (filter (λ entry. nat_lt mark entry.version) entries)
