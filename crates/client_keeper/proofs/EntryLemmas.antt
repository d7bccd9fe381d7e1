-- The entries of a change, one after another.
use Rattle.std.proofs.Common.{◌≡◌, ℕ, zero, suc, ◌+◌, ◌<◌, List, [], ◌∷◌, ◌++◌, length, take, drop, get_or, refl, sym, ap, ◌∙◌, subst, add-one, drop-cons, le_of_suc-le-suc, not-suc-le-zero}
use Rattle.std.specs.Prelude.{Option}
use Rattle.client_keeper.specs.declared.rows.RowKey.{RowKey}
use Rattle.client_keeper.specs.declared.change.Entry.{Entry}
use Rattle.client_keeper.specs.Rows.{Rows, with_value, changed}
use Rattle.client_keeper.specs.Slots.{Slots, HasSlot, HaveSlots, values_in}

-- each key that has a slot in the one has one in the other
abbrev pub Keeps : Slots → Slots → Type 0
Keeps old new = (key : RowKey) → HasSlot old key → HasSlot new key

-- the entries still have their slots
pub have_kept : (old new : Slots) (entries : List Entry) → Keeps old new → HaveSlots old entries → HaveSlots new entries
have_kept old new [] keeps have = tt
have_kept old new (entry ∷ entries) keeps have = (keeps entry.key have.0, have_kept old new entries keeps have.1)

have_first : (old new : Slots) (entries : List Entry) (index : ℕ) (entry : Entry) → index < length entries → Keeps old new
    → HaveSlots old (take index entries) → HasSlot new (get_or entries index entry).key → HaveSlots new (take (suc index) entries)
have_first old new [] index entry inside keeps have has = tt
have_first old new (first ∷ entries) zero entry inside keeps have has = (has, tt)
have_first old new (first ∷ entries) (suc index) entry inside keeps have has =
    (keeps first.key have.0, have_first old new entries index entry (le_of_suc-le-suc inside) keeps have.1 has)

-- one entry more has its slot
pub have_more : (old new : Slots) (entries : List Entry) (index : ℕ) (entry : Entry) → index < length entries → Keeps old new
    → HaveSlots old (take index entries) → HasSlot new (get_or entries index entry).key → HaveSlots new (take (index + 1) entries)
have_more old new entries index entry inside keeps have has =
    rw (add-one index) (have_first old new entries index entry inside keeps have has)

values_first : (entries : List Entry) (index : ℕ) (entry : Entry) → index < length entries
    → values_in (take (suc index) entries) ≡ values_in (take index entries) ++ (get_or entries index entry).value ∷ []
values_first [] index entry inside = absurd (not-suc-le-zero inside)
values_first (first ∷ entries) zero entry inside = refl
values_first (first ∷ entries) (suc index) entry inside =
    ap (λ (values : List (Option (List ℕ))). first.value ∷ values) (values_first entries index entry (le_of_suc-le-suc inside))

-- the value of one entry more
pub values_more : (entries : List Entry) (index : ℕ) (entry : Entry) (old new : List (Option (List ℕ))) (value : Option (List ℕ))
    → index < length entries → old ≡ values_in (take index entries) → value ≡ (get_or entries index entry).value
    → new ≡ old ++ value ∷ [] → new ≡ values_in (take (index + 1) entries)
values_more entries index entry old new value inside so_far is more = rw (add-one index)
    (more ∙ ap (λ (values : List (Option (List ℕ))). values ++ value ∷ []) so_far
    ∙ ap (λ (last : Option (List ℕ)). values_in (take index entries) ++ last ∷ []) is ∙ sym (values_first entries index entry inside))

-- the first of the entries that are left
pub next_entry : (entries : List Entry) (index : ℕ) (entry : Entry) → index < length entries → entry ≡ get_or entries index entry
    → drop index entries ≡ entry ∷ drop (index + 1) entries
next_entry entries index entry inside is = rw (add-one index)
    (drop-cons entries index entry inside ∙ ap (λ (first : Entry). first ∷ drop (suc index) entries) (sym is))

-- the entries behind the first one of those that are left have their slots
pub have_rest : (slots : Slots) (left : List Entry) (entry : Entry) (rest : List Entry) → left ≡ entry ∷ rest
    → HaveSlots slots left → HaveSlots slots rest
have_rest slots left entry rest is have =
    let P : List Entry → Type 0 = λ entries. HaveSlots slots entries in
    (subst P is have).1

-- the entries that are left, and one of them is set: they make what they made
pub set_next : (before now target : Rows) (left : List Entry) (entry : Entry) (rest : List Entry) (value : Option (List ℕ))
    → left ≡ entry ∷ rest → value ≡ entry.value → now ≡ with_value before entry.key value → changed before left ≡ target
    → changed now rest ≡ target
set_next before now target left entry rest value is same set whole =
    ap (λ (rows : Rows). changed rows rest) (set ∙ ap (with_value before entry.key) same)
    ∙ sym (ap (changed before) is) ∙ whole

the_values : (first other : Option (List ℕ)) (rest others : List (Option (List ℕ))) → first ∷ rest ≡ other ∷ others
    → (first ≡ other) × (rest ≡ others)
the_values first other rest others same = (
  ap (λ (values : List (Option (List ℕ))). get_or values 0 first) same,
  ap (λ (values : List (Option (List ℕ))). drop 1 values) same,
)

-- the next value is that of the next entry, and the others are those of the others
pub next_value : (values rest : List (Option (List ℕ))) (value : Option (List ℕ)) (left : List Entry) (entry : Entry) (later : List Entry)
    → values ≡ value ∷ rest → values ≡ values_in left → left ≡ entry ∷ later → (value ≡ entry.value) × (rest ≡ values_in later)
next_value values rest value left entry later is all front =
    the_values value entry.value rest (values_in later) (sym is ∙ all ∙ ap values_in front)
