-- Slots that are copied in their order, and the order of the rows that they show.
use Rattle.std.proofs.Common.{◌≡◌, ℕ, List, [], ◌∷◌, ◌++◌, refl, sym, ap, ◌∙◌, subst, append_assoc}
use Rattle.std.specs.Prelude.{Option, Some, None}
use Rattle.std.specs.BTreeMap.{insert_entry}
use Rattle.std.specs.List.{AllByRecursion}
use Rattle.std.specs.List.Sorted.{IsStrictlySortedBy}
use Rattle.std.specs.Map.{keys_of}
use Rattle.std.specs.Ordering.{match_ordering, ordering_reverse}
use Rattle.std.specs.declared.cmp.Ordering.{Ordering}
use Rattle.std.specs.declared.cmp.Ordering.TheVariants.{Less}
use Rattle.std.proofs.lemmas.Map.Keys.{sorted_head, sorted_tail}
use Rattle.client_keeper.specs.declared.rows.RowKey.{RowKey}
use Rattle.client_keeper.specs.Rows.{Rows, by_key, AreInOrder}
use Rattle.client_keeper.specs.Slots.{Slots, shown, shown_before}
use Rattle.client_keeper.proofs.KeyOrder.{by_key_total}

abbrev AllAbove : RowKey → List RowKey → Type 0
AllAbove key others = AllByRecursion (λ other. by_key key other ≡ Less) others

above_by : (key other : RowKey) (value : Option (List ℕ)) (rows : Rows) → by_key key other ≡ Less → AllAbove key (keys_of rows)
    → AllAbove key (keys_of (shown_before other value rows))
above_by key other None rows first others = others
above_by key other (Some value) rows first others = (first, others)

shown_above : (key : RowKey) (slots : Slots) → AllAbove key (keys_of slots) → AllAbove key (keys_of (shown slots))
shown_above key [] above = tt
shown_above key (slot ∷ slots) above = above_by key slot.0 slot.1 (shown slots) above.0 (shown_above key slots above.1)

in_order_by : (key : RowKey) (value : Option (List ℕ)) (rows : Rows) → AllAbove key (keys_of rows) → AreInOrder rows
    → AreInOrder (shown_before key value rows)
unfolding IsStrictlySortedBy
in_order_by key None rows above in_order = in_order
in_order_by key (Some value) rows above in_order = (above, in_order)

-- the rows of slots that are in order are in order
pub shown_in_order : (slots : Slots) → IsStrictlySortedBy by_key (keys_of slots) → AreInOrder (shown slots)
unfolding IsStrictlySortedBy
shown_in_order [] sorted = tt
shown_in_order (slot ∷ slots) sorted =
    in_order_by slot.0 slot.1 (shown slots) (shown_above slot.0 slots sorted.0) (shown_in_order slots sorted.1)

one_above : (key : RowKey) (before : Slots) (slot : RowKey × Option (List ℕ)) (rest : Slots)
    → AllAbove key (keys_of (before ++ slot ∷ rest)) → by_key key slot.0 ≡ Less
one_above key [] slot rest above = above.0
one_above key (first ∷ before) slot rest above = one_above key before slot rest above.1

last_by : (first slot : RowKey × Option (List ℕ)) (before : Slots) → by_key first.0 slot.0 ≡ Less
    → insert_entry by_key before slot.0 slot.1 ≡ before ++ slot ∷ []
    → insert_entry by_key (first ∷ before) slot.0 slot.1 ≡ first ∷ before ++ slot ∷ []
last_by first slot before below last =
    ap (λ (order : Ordering). match_ordering order ((slot.0, slot.1) ∷ first ∷ before) ((first.0, slot.1) ∷ before)
    (first ∷ insert_entry by_key before slot.0 slot.1)) (by_key_total.antisymm slot.0 first.0 ∙ ap ordering_reverse below)
    ∙ ap (λ (slots : Slots). first ∷ slots) last

-- a slot whose key is above all others goes last
pub inserted_last : (before : Slots) (slot : RowKey × Option (List ℕ)) (rest : Slots)
    → IsStrictlySortedBy by_key (keys_of (before ++ slot ∷ rest))
    → insert_entry by_key before slot.0 slot.1 ≡ before ++ slot ∷ []
inserted_last [] slot rest sorted = refl
inserted_last (first ∷ before) slot rest sorted =
    last_by first slot before
    (one_above first.0 before slot rest (sorted_head by_key first.0 (keys_of (before ++ slot ∷ rest)) sorted))
    (inserted_last before slot rest (sorted_tail by_key first.0 (keys_of (before ++ slot ∷ rest)) sorted))

-- one slot more is copied: the copies and what is left still make the whole
pub copied_more : (old new all : Slots) (key : RowKey) (value : Option (List ℕ)) (rest : Slots)
    → new ≡ insert_entry by_key old key value → IsStrictlySortedBy by_key (keys_of all) → old ++ (key, value) ∷ rest ≡ all
    → new ++ rest ≡ all
copied_more old new all key value rest is sorted whole =
    let P : Slots → Type 0 = λ slots. IsStrictlySortedBy by_key (keys_of slots) in
    ap (λ (slots : Slots). slots ++ rest) (is ∙ inserted_last old (key, value) rest (subst P (sym whole) sorted))
    ∙ append_assoc old ((key, value) ∷ []) rest ∙ whole
