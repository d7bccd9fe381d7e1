-- Rows that are read one after another, in order.
use Rattle.std.proofs.Common.{◌≡◌, ℕ, zero, suc, ◌-◌, ◌<◌, true, List, [], ◌∷◌, ◌++◌, length, refl, sym, ap, ◌∙◌, subst, arith, true≢false, le_of_suc-le-suc, not-suc-le-zero}
use Rattle.std.specs.Prelude.{Option, Some, None, is_some, unwrap_or, slice_get}
use Rattle.std.specs.List.{AllByRecursion}
use Rattle.std.specs.List.Sorted.{IsStrictlySortedBy}
use Rattle.std.specs.Map.{keys_of}
use Rattle.std.specs.Ordering.{is_lt}
use Rattle.std.specs.declared.cmp.Ordering.{Ordering}
use Rattle.std.specs.declared.cmp.Ordering.TheVariants.{Less, Equal, Greater}
use Rattle.client_keeper.specs.declared.rows.RowKey.{RowKey}
use Rattle.client_keeper.specs.declared.rows.KeptRow.{KeptRow}
use Rattle.client_keeper.specs.Rows.{by_key, key_of, rows_of, AreInOrder}
use Rattle.client_keeper.proofs.KeyOrder.{by_key_total}

-- each of the rows stands before the key
abbrev AllBefore : List KeptRow → RowKey → Type 0
AllBefore rows key = AllByRecursion (λ row. by_key (key_of row) key ≡ Less) rows

-- what is known of a key stays known of the rows behind one that goes first
first_before : (first : KeptRow) (rows : List KeptRow) (row : KeptRow)
    → AllByRecursion (λ key. by_key (key_of first) key ≡ Less) (keys_of (rows_of rows)) → by_key (key_of first) (key_of row) ≡ Less
    → AllByRecursion (λ key. by_key (key_of first) key ≡ Less) (keys_of (rows_of (rows ++ row ∷ [])))
first_before first [] row others last = (last, tt)
first_before first (other ∷ rows) row others last = (others.0, first_before first rows row others.1 last)

in_order_with : (rows : List KeptRow) (row : KeptRow) → AllBefore rows (key_of row) → AreInOrder (rows_of rows)
    → AreInOrder (rows_of (rows ++ row ∷ []))
unfolding IsStrictlySortedBy
in_order_with [] row before in_order = (tt, tt)
in_order_with (first ∷ rows) row before in_order =
    (first_before first rows row in_order.0 before.0, in_order_with rows row before.1 in_order.1)

-- where the last row stands before the key, all do
all_before : (rows : List KeptRow) (index : ℕ) (last : KeptRow) (key : RowKey) → suc index ≡ length rows → slice_get rows index ≡ Some last
    → by_key (key_of last) key ≡ Less → AreInOrder (rows_of rows) → AllBefore rows key
unfolding IsStrictlySortedBy
all_before [] index last key is_last found before in_order = tt
all_before (first ∷ []) zero last key is_last found before in_order =
    (ap (λ (row : Option KeptRow). by_key (key_of (unwrap_or row first)) key) found ∙ before, tt)
all_before (first ∷ []) (suc index) last key is_last found before in_order = absurd (true≢false (sym (ap is_some found)))
all_before (first ∷ second ∷ rows) zero last key is_last found before in_order = let no : ⊥ = omega arith in absurd no
all_before (first ∷ second ∷ rows) (suc index) last key is_last found before in_order =
    let others = all_before (second ∷ rows) index last key (omega arith) found before in_order.1 in
    (by_key_total.trans (key_of first) (key_of second) key in_order.0.0 others.0, others)

is_less : (order : Ordering) → is_lt order ≡ true → order ≡ Less
is_less Less is = refl
is_less Equal is = absurd (true≢false (sym is))
is_less Greater is = absurd (true≢false (sym is))

found_inside : (rows : List KeptRow) (index : ℕ) → index < length rows → slice_get rows index ≡ None → ⊥
found_inside [] index inside none = not-suc-le-zero inside
found_inside (first ∷ rows) zero inside none = true≢false (ap is_some none)
found_inside (first ∷ rows) (suc index) inside none = found_inside rows index (le_of_suc-le-suc inside) none

-- a row that stands after the last one keeps the order
pub in_order_after : (rows : List KeptRow) (last row : KeptRow) → slice_get rows (length rows - 1) ≡ Some last
    → is_lt (by_key (key_of last) (key_of row)) ≡ true → AreInOrder (rows_of rows) → AreInOrder (rows_of (rows ++ row ∷ []))
in_order_after [] last row found before in_order = absurd (true≢false (sym (ap is_some found)))
in_order_after (first ∷ rows) last row found before in_order =
    in_order_with (first ∷ rows) row
    (all_before (first ∷ rows) (length (first ∷ rows) - 1) last (key_of row) (omega arith) found (is_less _ before) in_order) in_order

-- the first row is in order
pub in_order_first : (rows : List KeptRow) (row : KeptRow) → slice_get rows (length rows - 1) ≡ None → AreInOrder (rows_of rows)
    → AreInOrder (rows_of (rows ++ row ∷ []))
in_order_first [] row none in_order = in_order_with [] row tt in_order
in_order_first (first ∷ rows) row none in_order =
    absurd (found_inside (first ∷ rows) (length (first ∷ rows) - 1) (omega arith) none)

-- no rows are in order
pub in_order_none : (rows : List KeptRow) → rows ≡ [] → AreInOrder (rows_of rows)
unfolding IsStrictlySortedBy
in_order_none rows none =
    let P : List KeptRow → Type 0 = λ others. AreInOrder (rows_of others) in
    subst P (sym none) tt
