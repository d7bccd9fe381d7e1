-- Rows in an ordered map, in which a key may stand without a row.
use Rattle.std.specs.Prelude.{ℕ, List, [], ◌∷◌, map, Option, Some, None, IsSome}
use Rattle.std.specs.BTreeMap.{is_at}
use Rattle.std.specs.List.{AllByRecursion}
use Rattle.std.specs.Map.{lookup}
use Rattle.client_keeper.specs.declared.change.Entry.{Entry}
use Rattle.client_keeper.specs.declared.rows.RowKey.{RowKey}
use Rattle.client_keeper.specs.Rows.{Rows, by_key}

-- keys, each with a value or with an empty slot
abbrev pub Slots : Type 0
Slots = List (RowKey × Option (List ℕ))

-- a slot's row before some others, where the slot has a value
abbrev pub shown_before : RowKey → Option (List ℕ) → Rows → Rows
shown_before key None rows = rows
shown_before key (Some value) rows = (key, value) ∷ rows

-- the rows of the slots that have a value
abbrev pub shown : Slots → Rows
shown [] = []
shown (slot ∷ rest) = shown_before slot.0 slot.1 (shown rest)

-- the key has a slot
abbrev pub HasSlot : Slots → RowKey → Type 0
HasSlot slots key = IsSome (lookup (is_at (by_key key)) slots)

-- the key of each entry has a slot
abbrev pub HaveSlots : Slots → List Entry → Type 0
HaveSlots slots entries = AllByRecursion (λ entry. HasSlot slots entry.key) entries

-- what entries say, without their keys
abbrev pub values_in : List Entry → List (Option (List ℕ))
values_in entries = map (λ entry. entry.value) entries
