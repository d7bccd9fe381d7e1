-- Rows, each with its table and its key, and what a change makes of them.
use Rattle.std.specs.Prelude.{ℕ, cond, List, [], ◌∷◌, map, Option, Some, None}
use Rattle.std.specs.BTreeMap.{is_at, insert_entry}
use Rattle.std.specs.Cmp.Lexicographic.{slice_cmp}
use Rattle.std.specs.List.{fold}
use Rattle.std.specs.List.Sorted.{IsStrictlySortedBy}
use Rattle.std.specs.Map.{lookup, remove_entry, keys_of}
use Rattle.std.specs.Ordering.{nat_cmp, ordering_then}
use Rattle.std.specs.declared.cmp.Ordering.{Ordering}
use Rattle.client_keeper.specs.declared.rows.RowKey.{RowKey}
use Rattle.client_keeper.specs.declared.rows.KeptRow.{KeptRow}
use Rattle.client_keeper.specs.declared.change.Entry.{Entry}

-- the value of each row under the row's table and key
abbrev pub Rows : Type 0
Rows = List (RowKey × List ℕ)

-- the order of rows: by table, and then by the bytes of the key
abbrev pub by_key : RowKey → RowKey → Ordering
by_key a b = ordering_then (nat_cmp a.table b.table) (slice_cmp nat_cmp a.key b.key)

-- the keys ascend, so that no two rows have the same one
abbrev pub AreInOrder : Rows → Type 0
AreInOrder rows = IsStrictlySortedBy by_key (keys_of rows)

-- the key of a row that a keeper gave
abbrev pub key_of : KeptRow → RowKey
key_of row = record { table = row.table; key = row.key }

-- a row that a keeper gave, by its key
abbrev pub row_of : KeptRow → RowKey × List ℕ
row_of row = (key_of row, row.value)

-- the rows that a keeper gave
abbrev pub rows_of : List KeptRow → Rows
rows_of rows = map row_of rows

-- the value of the row with this key, where there is one
abbrev pub value_at : Rows → RowKey → Option (List ℕ)
value_at rows key = lookup (is_at (by_key key)) rows

-- the rows with this value at the key, or without a row there
abbrev pub with_value : Rows → RowKey → Option (List ℕ) → Rows
with_value rows key None = remove_entry (is_at (by_key key)) rows
with_value rows key (Some value) = insert_entry by_key rows key value

-- the rows after one entry of a change
abbrev pub with_entry : Rows → Entry → Rows
with_entry rows entry = with_value rows entry.key entry.value

-- the rows after a change: its entries are made in turn, so that of one key the last one stands
abbrev pub changed : Rows → List Entry → Rows
changed rows entries = fold with_entry rows entries

-- what a change says of a key last, and else what was there before
abbrev pub last_said : RowKey → Option (List ℕ) → List Entry → Option (List ℕ)
last_said key before [] = before
last_said key before (entry ∷ later) = last_said key (cond (is_at (by_key key) entry.key) entry.value before) later
