-- What each change of the slots leaves of the rows that they show.
use Rattle.std.proofs.Common.{◌≡◌, ℕ, Bool, true, false, cond, List, [], ◌∷◌, refl, sym, ap, ◌∙◌, subst, true≢false}
use Rattle.std.specs.Prelude.{Option, Some, None, is_some, unwrap_or}
use Rattle.std.specs.BTreeMap.{is_at, insert_entry}
use Rattle.std.specs.List.{AllByRecursion}
use Rattle.std.specs.List.Sorted.{IsStrictlySortedBy}
use Rattle.std.specs.Map.{lookup, set_value, remove_entry, keys_of}
use Rattle.std.specs.Ordering.{is_eq, match_ordering}
use Rattle.std.specs.declared.cmp.Ordering.{Ordering}
use Rattle.std.specs.declared.cmp.Ordering.TheVariants.{Less, Equal, Greater}
use Rattle.std.proofs.lemmas.Map.{NonePasses, lookup-none}
use Rattle.std.proofs.lemmas.Map.Entries.{none_past_head, none_below_head}
use Rattle.std.proofs.lemmas.Map.Keys.{sorted_head, sorted_tail, IsDistinct-from_sorted}
use Rattle.client_keeper.specs.declared.rows.RowKey.{RowKey}
use Rattle.client_keeper.specs.Rows.{Rows, by_key, with_value}
use Rattle.client_keeper.specs.Slots.{Slots, shown, shown_before, HasSlot}
use Rattle.client_keeper.proofs.KeyOrder.{by_key_total, by_key_equiv, same_key}

abbrev Found : Type 0
Found = Option (Option (List ℕ))

reserved_by : (key : RowKey) (slot : RowKey × Option (List ℕ)) (slots rest : Slots) (found : Found) (order : Ordering)
    → cond (is_eq order) (Some slot.1) found ≡ None → (found ≡ None → shown rest ≡ shown slots)
    → shown (match_ordering order ((key, None) ∷ slot ∷ slots) ((slot.0, None) ∷ slots) (slot ∷ rest)) ≡ shown (slot ∷ slots)
reserved_by key slot slots rest found Less absent same = refl
reserved_by key slot slots rest found Equal absent same = absurd (true≢false (ap is_some absent))
reserved_by key slot slots rest found Greater absent same = ap (λ (rows : Rows). shown_before slot.0 slot.1 rows) (same absent)

-- an empty slot more shows no other rows
shown_reserved : (slots : Slots) (key : RowKey) → lookup (is_at (by_key key)) slots ≡ None
    → shown (insert_entry by_key slots key None) ≡ shown slots
shown_reserved [] key absent = refl
shown_reserved (slot ∷ slots) key absent =
    reserved_by key slot slots (insert_entry by_key slots key None) (lookup (is_at (by_key key)) slots) (by_key key slot.0) absent
    (shown_reserved slots key)

none_found : (found : Found) → is_some found ≡ false → found ≡ None
none_found None absent = refl
none_found (Some slot) absent = absurd (true≢false absent)

-- an empty slot at a copy of a key that has none shows no other rows
pub shown_with_slot : (slots : Slots) (key copy : RowKey) → copy ≡ key → is_some (lookup (is_at (by_key key)) slots) ≡ false
    → shown (insert_entry by_key slots copy None) ≡ shown slots
shown_with_slot slots key copy same absent =
    ap (λ one. shown (insert_entry by_key slots one None)) same
    ∙ shown_reserved slots key (none_found (lookup (is_at (by_key key)) slots) absent)

dropped_by : (slot : RowKey × Option (List ℕ)) (slots rest : Slots) (found : Found) (tie : Bool)
    → cond tie (Some slot.1) found ≡ Some None → (found ≡ Some None → shown rest ≡ shown slots)
    → shown (cond tie slots (slot ∷ rest)) ≡ shown (slot ∷ slots)
dropped_by slot slots rest found true is same =
    ap (λ (old : Option (List ℕ)). shown_before slot.0 old (shown slots)) (sym (ap (λ (one : Found). unwrap_or one None) is))
dropped_by slot slots rest found false is same = ap (λ (rows : Rows). shown_before slot.0 slot.1 rows) (same is)

-- an empty slot less shows no other rows
pub shown_dropped : (slots : Slots) (key : RowKey) → lookup (is_at (by_key key)) slots ≡ Some None
    → shown (remove_entry (is_at (by_key key)) slots) ≡ shown slots
shown_dropped [] key is = absurd (true≢false (sym (ap is_some is)))
shown_dropped (slot ∷ slots) key is =
    dropped_by slot slots (remove_entry (is_at (by_key key)) slots) (lookup (is_at (by_key key)) slots) (is_at (by_key key) slot.0) is
    (shown_dropped slots key)

removed_by : (key other : RowKey) (old : Option (List ℕ)) (rows : Rows) → is_at (by_key key) other ≡ false
    → remove_entry (is_at (by_key key)) rows ≡ rows
    → remove_entry (is_at (by_key key)) (shown_before other old rows) ≡ shown_before other old rows
removed_by key other None rows apart same = same
removed_by key other (Some value) rows apart same =
    ap (λ (tie : Bool). cond tie rows ((other, value) ∷ remove_entry (is_at (by_key key)) rows)) apart
    ∙ ap (λ (rest : Rows). (other, value) ∷ rest) same

-- to take out a key without a slot changes no row
removed_absent : (key : RowKey) (slots : Slots) → NonePasses (is_at (by_key key)) slots
    → remove_entry (is_at (by_key key)) (shown slots) ≡ shown slots
removed_absent key [] none = refl
removed_absent key (slot ∷ slots) none = removed_by key slot.0 slot.1 (shown slots) none.0 (removed_absent key slots none.1)

cleared_by : (key other : RowKey) (old : Option (List ℕ)) (slots rest : Slots) (tie : Bool) → is_at (by_key key) other ≡ tie
    → (tie ≡ true → remove_entry (is_at (by_key key)) (shown slots) ≡ shown slots)
    → shown rest ≡ remove_entry (is_at (by_key key)) (shown slots)
    → shown (cond tie ((other, None) ∷ slots) ((other, old) ∷ rest)) ≡ remove_entry (is_at (by_key key)) (shown_before other old (shown slots))
cleared_by key other None slots rest true is none same = sym (none refl)
cleared_by key other None slots rest false is none same = same
cleared_by key other (Some value) slots rest true is none same =
    sym (ap (λ (tie : Bool). cond tie (shown slots) ((other, value) ∷ remove_entry (is_at (by_key key)) (shown slots))) is)
cleared_by key other (Some value) slots rest false is none same =
    ap (λ (rows : Rows). (other, value) ∷ rows) same
    ∙ sym (ap (λ (tie : Bool). cond tie (shown slots) ((other, value) ∷ remove_entry (is_at (by_key key)) (shown slots))) is)

-- a slot that is emptied takes its row out
shown_cleared : (slots : Slots) (key : RowKey) → IsStrictlySortedBy by_key (keys_of slots)
    → shown (set_value (is_at (by_key key)) slots None) ≡ remove_entry (is_at (by_key key)) (shown slots)
shown_cleared [] key sorted = refl
shown_cleared (slot ∷ slots) key sorted =
    cleared_by key slot.0 slot.1 slots (set_value (is_at (by_key key)) slots None) (is_at (by_key key) slot.0) refl
    (λ tie. removed_absent key slots
    (none_past_head by_key_equiv key slot slots (IsDistinct-from_sorted by_key (keys_of (slot ∷ slots)) sorted) tie))
    (shown_cleared slots key (sorted_tail by_key slot.0 (keys_of slots) sorted))

first_by : (key other : RowKey) (value : List ℕ) (old : Option (List ℕ)) (rows : Rows) → by_key key other ≡ Less
    → insert_entry by_key rows key value ≡ (key, value) ∷ rows
    → insert_entry by_key (shown_before other old rows) key value ≡ (key, value) ∷ shown_before other old rows
first_by key other value None rows below first = first
first_by key other value (Some old) rows below first =
    ap (λ (order : Ordering). match_ordering order ((key, value) ∷ (other, old) ∷ rows) ((other, value) ∷ rows)
    ((other, old) ∷ insert_entry by_key rows key value)) below

-- a row whose key is below all others goes first
shown_first : (slots : Slots) (key : RowKey) (value : List ℕ) → AllByRecursion (λ other. by_key key other ≡ Less) (keys_of slots)
    → insert_entry by_key (shown slots) key value ≡ (key, value) ∷ shown slots
shown_first [] key value below = refl
shown_first (slot ∷ slots) key value below =
    first_by key slot.0 value slot.1 (shown slots) below.0 (shown_first slots key value below.1)

filled_by : (key other : RowKey) (value : List ℕ) (old : Option (List ℕ)) (slots rest : Slots) (order : Ordering)
    → by_key key other ≡ order → (order ≡ Less → ⊥)
    → (order ≡ Equal → insert_entry by_key (shown slots) key value ≡ (other, value) ∷ shown slots)
    → (order ≡ Greater → shown rest ≡ insert_entry by_key (shown slots) key value)
    → shown (cond (is_eq order) ((other, Some value) ∷ slots) ((other, old) ∷ rest))
    ≡ insert_entry by_key (shown_before other old (shown slots)) key value
filled_by key other value old slots rest Less is not_below first same = absurd (not_below refl)
filled_by key other value None slots rest Equal is not_below first same = sym (first refl)
filled_by key other value (Some old) slots rest Equal is not_below first same =
    sym (ap (λ (order : Ordering). match_ordering order ((key, value) ∷ (other, old) ∷ shown slots) ((other, value) ∷ shown slots)
    ((other, old) ∷ insert_entry by_key (shown slots) key value)) is)
filled_by key other value None slots rest Greater is not_below first same = same refl
filled_by key other value (Some old) slots rest Greater is not_below first same =
    ap (λ (rows : Rows). (other, old) ∷ rows) (same refl)
    ∙ sym (ap (λ (order : Ordering). match_ordering order ((key, value) ∷ (other, old) ∷ shown slots) ((other, value) ∷ shown slots)
    ((other, old) ∷ insert_entry by_key (shown slots) key value)) is)

-- the first slot has the key: its row goes before those of the others
filled_first : (slot : RowKey × Option (List ℕ)) (slots : Slots) (key : RowKey) (value : List ℕ)
    → IsStrictlySortedBy by_key (keys_of (slot ∷ slots)) → by_key key slot.0 ≡ Equal
    → insert_entry by_key (shown slots) key value ≡ (slot.0, value) ∷ shown slots
filled_first slot slots key value sorted tie =
    let one = same_key key slot.0 tie in
    let P : RowKey → Type 0 = λ first. insert_entry by_key (shown slots) first value ≡ (slot.0, value) ∷ shown slots in
    subst P (sym one) (shown_first slots slot.0 value (sorted_head by_key slot.0 (keys_of slots) sorted))

-- a key that is below the first slot's has none
no_slot_below : (slot : RowKey × Option (List ℕ)) (slots : Slots) (key : RowKey) → IsStrictlySortedBy by_key (keys_of (slot ∷ slots))
    → HasSlot (slot ∷ slots) key → by_key key slot.0 ≡ Less → ⊥
no_slot_below slot slots key sorted has below =
    true≢false (sym has
    ∙ ap is_some (lookup-none (is_at (by_key key)) (slot ∷ slots) (none_below_head by_key_total key slot slots sorted below)))

-- a slot that is not the first one is among the others
slot_behind : (slot : RowKey × Option (List ℕ)) (slots : Slots) (key : RowKey) → HasSlot (slot ∷ slots) key
    → by_key key slot.0 ≡ Greater → HasSlot slots key
slot_behind slot slots key has above =
    sym (ap (λ (order : Ordering). is_some (cond (is_eq order) (Some slot.1) (lookup (is_at (by_key key)) slots))) above) ∙ has

-- a slot that is filled puts its row in
shown_filled : (slots : Slots) (key : RowKey) (value : List ℕ) → IsStrictlySortedBy by_key (keys_of slots) → HasSlot slots key
    → shown (set_value (is_at (by_key key)) slots (Some value)) ≡ insert_entry by_key (shown slots) key value
shown_filled [] key value sorted has = absurd (true≢false (sym has))
shown_filled (slot ∷ slots) key value sorted has =
    filled_by key slot.0 value slot.1 slots (set_value (is_at (by_key key)) slots (Some value)) (by_key key slot.0) refl
    (no_slot_below slot slots key sorted has)
    (filled_first slot slots key value sorted)
    (λ above. shown_filled slots key value (sorted_tail by_key slot.0 (keys_of slots) sorted) (slot_behind slot slots key has above))

-- what is set in a slot is the value of its row, or that there is none
pub shown_set : (slots : Slots) (key : RowKey) (value : Option (List ℕ)) → IsStrictlySortedBy by_key (keys_of slots) → HasSlot slots key
    → shown (set_value (is_at (by_key key)) slots value) ≡ with_value (shown slots) key value
shown_set slots key None sorted has = shown_cleared slots key sorted
shown_set slots key (Some value) sorted has = shown_filled slots key value sorted has

has_by : (tie : Bool) (old new : Found) (value : Option (List ℕ)) → new ≡ cond tie (Some value) old → is_some old ≡ true → is_some new ≡ true
has_by true old new value is has = ap is_some is
has_by false old new value is has = ap is_some is ∙ has

-- a key that has a slot still has one after another one is set
pub has_after : (old new : Slots) (key other : RowKey) (value : Option (List ℕ))
    → lookup (is_at (by_key other)) new ≡ cond (is_at (by_key key) other) (Some value) (lookup (is_at (by_key other)) old)
    → HasSlot old other → HasSlot new other
has_after old new key other value is has =
    has_by (is_at (by_key key) other) (lookup (is_at (by_key other)) old) (lookup (is_at (by_key other)) new) value is has
