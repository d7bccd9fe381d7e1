-- What a change makes of the value at each key, and of the order.
use Rattle.std.proofs.Common.{◌≡◌, ℕ, Bool, true, false, cond, List, [], ◌∷◌, refl, sym, ap, ◌∙◌, true≢false}
use Rattle.std.specs.Prelude.{Option, Some, None}
use Rattle.std.specs.BTreeMap.{is_at, insert_entry}
use Rattle.std.specs.List.{AllByRecursion}
use Rattle.std.specs.List.Sorted.{IsStrictlySortedBy}
use Rattle.std.specs.Map.{lookup, remove_entry, keys_of}
use Rattle.std.specs.Ordering.{is_eq, match_ordering, ordering_reverse}
use Rattle.std.specs.declared.cmp.Ordering.{Ordering}
use Rattle.std.specs.declared.cmp.Ordering.TheVariants.{Less, Equal, Greater}
use Rattle.std.proofs.lemmas.Map.{lookup-remove_entry}
use Rattle.std.proofs.lemmas.Map.Keys.{IsDistinct-from_sorted}
use Rattle.client_keeper.specs.declared.rows.RowKey.{RowKey}
use Rattle.client_keeper.specs.declared.change.Entry.{Entry}
use Rattle.client_keeper.specs.Rows.{Rows, by_key, value_at, with_value, with_entry, changed, last_said, AreInOrder}
use Rattle.client_keeper.proofs.KeyOrder.{by_key_total, by_key_equiv, same_key}

abbrev Above : RowKey → List RowKey → Type 0
Above key others = AllByRecursion (λ other. by_key key other ≡ Less) others

above_all : (key first : RowKey) (others : List RowKey) → by_key key first ≡ Less → Above first others → Above key others
above_all key first [] below above = tt
above_all key first (other ∷ others) below above =
    (by_key_total.trans key first other below above.0, above_all key first others below above.1)

above_inserted_by : (first key : RowKey) (value : List ℕ) (row : RowKey × List ℕ) (rows rest : Rows) (order : Ordering)
    → by_key first key ≡ Less → Above first (keys_of (row ∷ rows)) → Above first (keys_of rest)
    → Above first (keys_of (match_ordering order ((key, value) ∷ row ∷ rows) ((row.0, value) ∷ rows) (row ∷ rest)))
above_inserted_by first key value row rows rest Less below above others = (below, above)
above_inserted_by first key value row rows rest Equal below above others = above
above_inserted_by first key value row rows rest Greater below above others = (above.0, others)

above_inserted : (first key : RowKey) (value : List ℕ) (rows : Rows) → by_key first key ≡ Less → Above first (keys_of rows)
    → Above first (keys_of (insert_entry by_key rows key value))
above_inserted first key value [] below above = (below, tt)
above_inserted first key value (row ∷ rows) below above =
    above_inserted_by first key value row rows (insert_entry by_key rows key value) (by_key key row.0) below above
    (above_inserted first key value rows below above.1)

order_inserted_by : (key : RowKey) (value : List ℕ) (row : RowKey × List ℕ) (rows : Rows) (order : Ordering) → by_key key row.0 ≡ order
    → AreInOrder (row ∷ rows) → AreInOrder (insert_entry by_key rows key value)
    → AreInOrder (match_ordering order ((key, value) ∷ row ∷ rows) ((row.0, value) ∷ rows) (row ∷ insert_entry by_key rows key value))
unfolding IsStrictlySortedBy
order_inserted_by key value row rows Less is in_order rest = ((is, above_all key row.0 (keys_of rows) is in_order.0), in_order)
order_inserted_by key value row rows Equal is in_order rest = in_order
order_inserted_by key value row rows Greater is in_order rest =
    (above_inserted row.0 key value rows (by_key_total.antisymm row.0 key ∙ ap ordering_reverse is) in_order.0, rest)

order_inserted : (rows : Rows) (key : RowKey) (value : List ℕ) → AreInOrder rows → AreInOrder (insert_entry by_key rows key value)
unfolding IsStrictlySortedBy
order_inserted [] key value in_order = (tt, tt)
order_inserted (row ∷ rows) key value in_order =
    order_inserted_by key value row rows (by_key key row.0) refl in_order (order_inserted rows key value in_order.1)

above_removed_by : (first : RowKey) (row : RowKey × List ℕ) (rows rest : Rows) (tie : Bool) → Above first (keys_of (row ∷ rows))
    → Above first (keys_of rest) → Above first (keys_of (cond tie rows (row ∷ rest)))
above_removed_by first row rows rest true above others = above.1
above_removed_by first row rows rest false above others = (above.0, others)

above_removed : (first key : RowKey) (rows : Rows) → Above first (keys_of rows)
    → Above first (keys_of (remove_entry (is_at (by_key key)) rows))
above_removed first key [] above = tt
above_removed first key (row ∷ rows) above =
    above_removed_by first row rows (remove_entry (is_at (by_key key)) rows) (is_at (by_key key) row.0) above
    (above_removed first key rows above.1)

order_removed_by : (row : RowKey × List ℕ) (rows rest : Rows) (tie : Bool) → AreInOrder (row ∷ rows) → Above row.0 (keys_of rest)
    → AreInOrder rest → AreInOrder (cond tie rows (row ∷ rest))
unfolding IsStrictlySortedBy
order_removed_by row rows rest true in_order above others = in_order.1
order_removed_by row rows rest false in_order above others = (above, others)

order_removed : (rows : Rows) (key : RowKey) → AreInOrder rows → AreInOrder (remove_entry (is_at (by_key key)) rows)
unfolding IsStrictlySortedBy
order_removed [] key in_order = tt
order_removed (row ∷ rows) key in_order =
    order_removed_by row rows (remove_entry (is_at (by_key key)) rows) (is_at (by_key key) row.0) in_order
    (above_removed row.0 key rows in_order.0) (order_removed rows key in_order.1)

order_with : (rows : Rows) (key : RowKey) (value : Option (List ℕ)) → AreInOrder rows → AreInOrder (with_value rows key value)
order_with rows key None in_order = order_removed rows key in_order
order_with rows key (Some value) in_order = order_inserted rows key value in_order

-- rows that are in order stay so
pub order_kept : (rows : Rows) (entries : List Entry) → AreInOrder rows → AreInOrder (changed rows entries)
order_kept rows [] in_order = in_order
order_kept rows (entry ∷ entries) in_order =
    order_kept (with_entry rows entry) entries (order_with rows entry.key entry.value in_order)

abbrev Value : Type 0
Value = Option (List ℕ)

-- one key is found at two keys of which the one is above the other
both_tie : (q key other : RowKey) → is_at (by_key q) other ≡ true → is_at (by_key q) key ≡ true → by_key key other ≡ Greater → ⊥
both_tie q key other one two above =
    true≢false (sym (sym (ap is_eq above) ∙ by_key_equiv.congr key q other (by_key_equiv.symm key q ∙ two) ∙ one))

past_other : (one two : Bool) (value old : Value) (found new : Value) → new ≡ cond two value found → (one ≡ true → two ≡ true → ⊥)
    → cond one old new ≡ cond two value (cond one old found)
past_other true true value old found new is not_both = absurd (not_both refl refl)
past_other true false value old found new is not_both = refl
past_other false true value old found new is not_both = is
past_other false false value old found new is not_both = is

at_same : (tie : Bool) (value old found : Value) → cond tie value found ≡ cond tie value (cond tie old found)
at_same true value old found = refl
at_same false value old found = refl

found_inserted_by : (q key : RowKey) (value : List ℕ) (row : RowKey × List ℕ) (rows : Rows) (order : Ordering) → by_key key row.0 ≡ order
    → lookup (is_at (by_key q)) (insert_entry by_key rows key value)
    ≡ cond (is_at (by_key q) key) (Some value) (lookup (is_at (by_key q)) rows)
    → lookup (is_at (by_key q)) (match_ordering order ((key, value) ∷ row ∷ rows) ((row.0, value) ∷ rows) (row ∷ insert_entry by_key rows key value))
    ≡ cond (is_at (by_key q) key) (Some value) (lookup (is_at (by_key q)) (row ∷ rows))
found_inserted_by q key value row rows Less is same = refl
found_inserted_by q key value row rows Equal is same =
    at_same (is_at (by_key q) row.0) (Some value) (Some row.1) (lookup (is_at (by_key q)) rows)
    ∙ ap (λ (one : RowKey). cond (is_at (by_key q) one) (Some value) (lookup (is_at (by_key q)) (row ∷ rows))) (sym (same_key key row.0 is))
found_inserted_by q key value row rows Greater is same =
    past_other (is_at (by_key q) row.0) (is_at (by_key q) key) (Some value) (Some row.1) (lookup (is_at (by_key q)) rows)
    (lookup (is_at (by_key q)) (insert_entry by_key rows key value)) same (λ one two. both_tie q key row.0 one two is)

found_inserted : (rows : Rows) (key : RowKey) (value : List ℕ) (q : RowKey)
    → value_at (insert_entry by_key rows key value) q ≡ cond (is_at (by_key q) key) (Some value) (value_at rows q)
found_inserted [] key value q = refl
found_inserted (row ∷ rows) key value q =
    found_inserted_by q key value row rows (by_key key row.0) refl (found_inserted rows key value q)

found_with : (rows : Rows) (key : RowKey) (value : Value) (q : RowKey) → AreInOrder rows
    → value_at (with_value rows key value) q ≡ cond (is_at (by_key q) key) value (value_at rows q)
found_with rows key None q in_order =
    lookup-remove_entry by_key_equiv (is_at (by_key key)) (λ x y tie. by_key_equiv.congr key x y tie) q rows
    (IsDistinct-from_sorted by_key (keys_of rows) in_order)
    ∙ ap (λ (tie : Bool). cond tie None (value_at rows q)) (by_key_equiv.symm key q)
found_with rows key (Some value) q in_order = found_inserted rows key value q

-- after a change each key has what the change says of it last
pub last_stands : (rows : Rows) (entries : List Entry) (key : RowKey) → AreInOrder rows
    → value_at (changed rows entries) key ≡ last_said key (value_at rows key) entries
last_stands rows [] key in_order = refl
last_stands rows (entry ∷ entries) key in_order =
    last_stands (with_entry rows entry) entries key (order_with rows entry.key entry.value in_order)
    ∙ ap (λ (before : Value). last_said key before entries) (found_with rows entry.key entry.value key in_order)
