-- Stores by their names.
use Rattle.std.proofs.Common.{◌≡◌, ℕ, zero, suc, ◌+◌, ◌<◌, Bool, true, false, cond, ◌||◌, unwrap_or, List, [], ◌∷◌, ◌++◌, length, take, get_or, set, refl, sym, ap, ◌∙◌, subst, true≢false, add-one, le_of_suc-le-suc, not-suc-le-zero}
use Rattle.std.specs.Prelude.{Option, Some, None, is_some}
use Rattle.std.specs.BTreeMap.{BTreeMap}
use Rattle.std.specs.Cmp.Lexicographic.{nat_list_eq_equiv}
use Rattle.std.proofs.lemmas.Map.Made.{is_some-lookup}
use Rattle.std.proofs.lemmas.Bool.{or_left, or_right}
use Rattle.std.proofs.lemmas.List.Folds.{list_any-append}
use Rattle.std.specs.List.{IsDistinct, list_any}
use Rattle.std.proofs.lemmas.Map.{keys-set_value}
use Rattle.std.proofs.lemmas.Map.Keys.{IsDistinct-push}
use Rattle.std.specs.Map.{lookup, set_value, keys_of}
use Rattle.client_keeper.specs.declared.rows.RowKey.{RowKey}
use Rattle.client_keeper.specs.Rows.{Rows}
use Rattle.client_keeper.specs.Slots.{shown}
use Rattle.client_keeper.specs.Stores.{Stores, HasStore, HaveOwnNames, KeepsNames, is_named, rows_at, with_name, with_rows}
use Rattle.client_keeper.specs.Names.{store_of, stores_of, IsFirstNamed}
use Rattle.client_keeper.specs.declared.memory_place.Store.{Store}

-- no stores have names of their own
pub no_names : (stores : List Store) → stores ≡ [] → HaveOwnNames (stores_of stores)
unfolding IsDistinct
no_names stores none =
    let P : List Store → Type 0 = λ others. HaveOwnNames (stores_of others) in
    subst P (sym none) tt

still_none : {X : Type 0} (tie : Bool) (first : X) (found later : Option X) → cond tie (Some first) found ≡ None
    → (found ≡ None → later ≡ None) → cond tie (Some first) later ≡ None
still_none true first found later none then = none
still_none false first found later none then = then none

none_so_far : (name : List ℕ) (stores : List Store) (index : ℕ) (other : Store) → index < length stores
    → lookup (is_named name) (take index (stores_of stores)) ≡ None → is_named name (get_or stores index other).name ≡ false
    → lookup (is_named name) (take (suc index) (stores_of stores)) ≡ None
none_so_far name [] index other inside none apart = absurd (not-suc-le-zero inside)
none_so_far name (store ∷ stores) zero other inside none apart =
    ap (λ (tie : Bool). cond tie (Some (shown store.slots.entries)) None) apart
none_so_far name (store ∷ stores) (suc index) other inside none apart =
    still_none (is_named name store.name) (shown store.slots.entries) (lookup (is_named name) (take index (stores_of stores)))
    (lookup (is_named name) (take (suc index) (stores_of stores))) none
    (λ before. none_so_far name stores index other (le_of_suc-le-suc inside) before apart)

-- one store more does not have the name
pub none_more : (name : List ℕ) (stores : List Store) (index : ℕ) (other : Store) → index < length stores
    → lookup (is_named name) (take index (stores_of stores)) ≡ None → is_named name (get_or stores index other).name ≡ false
    → lookup (is_named name) (take (index + 1) (stores_of stores)) ≡ None
none_more name stores index other inside none apart = rw (add-one index) (none_so_far name stores index other inside none apart)

found_behind : {X : Type 0} (tie : Bool) (first last : X) (found all : Option X) → cond tie (Some first) found ≡ None
    → (found ≡ None → all ≡ Some last) → cond tie (Some first) all ≡ Some last
found_behind true first last found all none then = absurd (true≢false (ap is_some none))
found_behind false first last found all none then = then none

found_from : (name : List ℕ) (stores : List Store) (index : ℕ) (other : Store) → index < length stores
    → lookup (is_named name) (take index (stores_of stores)) ≡ None → is_named name (get_or stores index other).name ≡ true
    → lookup (is_named name) (stores_of stores) ≡ Some (shown (get_or stores index other).slots.entries)
found_from name [] index other inside none is = absurd (not-suc-le-zero inside)
found_from name (store ∷ stores) zero other inside none is =
    ap (λ (tie : Bool). cond tie (Some (shown store.slots.entries)) (lookup (is_named name) (stores_of stores))) is
found_from name (store ∷ stores) (suc index) other inside none is =
    found_behind (is_named name store.name) (shown store.slots.entries) (shown (get_or stores index other).slots.entries)
    (lookup (is_named name) (take index (stores_of stores))) (lookup (is_named name) (stores_of stores)) none
    (λ before. found_from name stores index other (le_of_suc-le-suc inside) before is)

-- the rows of the first store with the name
pub found_rows : (stores : List Store) (name : List ℕ) (index : ℕ) (other : Store) → IsFirstNamed stores name index
    → lookup (is_named name) (stores_of stores) ≡ Some (shown (get_or stores index other).slots.entries)
found_rows stores name index other first = found_from name stores index other first.inside first.none_before (first.is other)

set_behind : (tie : Bool) (store : List ℕ × Rows) (rows : Rows) (found : Option Rows) (changed others stores : Stores)
    → cond tie (Some store.1) found ≡ None → (found ≡ None → others ≡ changed)
    → store ∷ others ≡ cond tie ((store.0, rows) ∷ stores) (store ∷ changed)
set_behind true store rows found changed others stores none then = absurd (true≢false (ap is_some none))
set_behind false store rows found changed others stores none then = ap (λ (rest : Stores). store ∷ rest) (then none)

set_from : (name : List ℕ) (stores : List Store) (index : ℕ) (old : Store) (slots : BTreeMap RowKey (Option (List ℕ)))
    → index < length stores → lookup (is_named name) (take index (stores_of stores)) ≡ None
    → is_named name (get_or stores index old).name ≡ true → old ≡ get_or stores index old
    → stores_of (set stores index record { name = old.name; slots = slots }) ≡ with_rows (stores_of stores) name (shown slots.entries)
set_from name [] index old slots inside none is same = absurd (not-suc-le-zero inside)
set_from name (store ∷ stores) zero old slots inside none is same =
    ap (λ (one : Store). (one.name, shown slots.entries) ∷ stores_of stores) same
    ∙ sym (ap (λ (tie : Bool). cond tie ((store.name, shown slots.entries) ∷ stores_of stores)
    (store_of store ∷ set_value (is_named name) (stores_of stores) (shown slots.entries))) is)
set_from name (store ∷ stores) (suc index) old slots inside none is same =
    set_behind (is_named name store.name) (store_of store) (shown slots.entries)
    (lookup (is_named name) (take index (stores_of stores))) (set_value (is_named name) (stores_of stores) (shown slots.entries))
    (stores_of (set stores index record { name = old.name; slots = slots })) (stores_of stores) none
    (λ before. set_from name stores index old slots (le_of_suc-le-suc inside) before is same)

-- the rows of the first store with the name are set
pub set_rows : (stores : List Store) (name : List ℕ) (index : ℕ) (old : Store) (slots : BTreeMap RowKey (Option (List ℕ)))
    → IsFirstNamed stores name index → old ≡ get_or stores index old
    → stores_of (set stores index record { name = old.name; slots = slots }) ≡ with_rows (stores_of stores) name (shown slots.entries)
set_rows stores name index old slots first same =
    set_from name stores index old slots first.inside first.none_before (first.is old) same

-- a name that no store has is not among the names
none_among : (stores : Stores) (name : List ℕ) → lookup (is_named name) stores ≡ None → list_any (is_named name) (keys_of stores) ≡ false
none_among stores name none = sym (is_some-lookup (is_named name) stores) ∙ ap is_some none

keys_more : (stores : Stores) (name : List ℕ) (rows : Rows) → keys_of (stores ++ (name, rows) ∷ []) ≡ keys_of stores ++ name ∷ []
keys_more [] name rows = refl
keys_more (store ∷ stores) name rows = ap (λ (names : List (List ℕ)). store.0 ∷ names) (keys_more stores name rows)

added : (stores : Stores) (name : List ℕ) → lookup (is_named name) stores ≡ None → with_name stores name ≡ stores ++ (name, []) ∷ []
added stores name none = ap (λ (found : Option Rows). cond (is_some found) stores (stores ++ (name, []) ∷ [])) none

-- a store more, whose name is new
pub own_names_more : (old new : Stores) (name : List ℕ) → lookup (is_named name) old ≡ None → new ≡ with_name old name
    → HaveOwnNames old → HaveOwnNames new
own_names_more old new name none is own =
    let P : List (List ℕ) → Type 0 = λ names. IsDistinct is_named names in
    subst P (sym (ap keys_of (is ∙ added old name none) ∙ keys_more old name []))
    (IsDistinct-push nat_list_eq_equiv (keys_of old) name own (none_among old name none))

-- other rows under a name
pub own_names_kept : (old new : Stores) (name : List ℕ) (rows : Rows) → new ≡ with_rows old name rows → HaveOwnNames old → HaveOwnNames new
own_names_kept old new name rows is own =
    let P : List (List ℕ) → Type 0 = λ names. IsDistinct is_named names in
    subst P (sym (ap keys_of is ∙ keys-set_value (is_named name) old rows)) own

-- a name that is there is not added
pub there_already : (stores : Stores) (name : List ℕ) (rows : Rows) → lookup (is_named name) stores ≡ Some rows
    → stores ≡ with_name stores name
there_already stores name rows found =
    sym (ap (λ (one : Option Rows). cond (is_some one) stores (stores ++ (name, []) ∷ [])) found)

-- the rows of a name that is there
pub rows_there : (stores : Stores) (name : List ℕ) (rows : Rows) → lookup (is_named name) stores ≡ Some rows → rows ≡ rows_at stores name
rows_there stores name rows found = sym (ap (λ (one : Option Rows). unwrap_or one []) found)

named_in : (name : List ℕ) (stores : Stores) → is_some (lookup (is_named name) stores) ≡ list_any (is_named name) (keys_of stores)
named_in name stores = is_some-lookup (is_named name) stores

-- a name more, and those that were there
has_more : (stores : Stores) (name other : List ℕ) → is_some (lookup (is_named other) (stores ++ (name, []) ∷ []))
    ≡ (list_any (is_named other) (keys_of stores) || list_any (is_named other) (name ∷ []))
has_more stores name other =
    named_in other (stores ++ (name, []) ∷ []) ∙ ap (list_any (is_named other)) (keys_more stores name [])
    ∙ list_any-append (is_named other) (keys_of stores) (name ∷ [])

either : (tie : Bool) (stores more : Stores) (name : List ℕ) → (tie ≡ true → HasStore stores name) → HasStore more name
    → HasStore (cond tie stores more) name
either true stores more name old new = old refl
either false stores more name old new = new

-- a store has the name that is asked for
pub has_named : (old new : Stores) (name : List ℕ) → new ≡ with_name old name → HasStore new name
has_named old new name is =
    let P : Stores → Type 0 = λ stores. HasStore stores name in
    subst P (sym is) (either (is_some (lookup (is_named name) old)) old (old ++ (name, []) ∷ []) name (λ found. found)
    (has_more old name name ∙ or_right (list_any (is_named name) (keys_of old)) (list_any (is_named name) (name ∷ []))
    (or_left (is_named name name) false (nat_list_eq_equiv.refl name))))

-- a store that is asked for takes no name away
pub names_kept_named : (old new : Stores) (name : List ℕ) → new ≡ with_name old name → KeepsNames old new
names_kept_named old new name is = λ other has.
    let P : Stores → Type 0 = λ stores. HasStore stores other in
    subst P (sym is) (either (is_some (lookup (is_named name) old)) old (old ++ (name, []) ∷ []) other (λ found. has)
    (has_more old name other ∙ or_left (list_any (is_named other) (keys_of old)) (list_any (is_named other) (name ∷ []))
    (sym (named_in other old) ∙ has)))

-- other rows take no name away
pub names_kept : (old new : Stores) (name : List ℕ) (rows : Rows) → new ≡ with_rows old name rows → KeepsNames old new
names_kept old new name rows is = λ other has.
    ap (λ (stores : Stores). is_some (lookup (is_named other) stores)) is
    ∙ named_in other (with_rows old name rows)
    ∙ ap (list_any (is_named other)) (keys-set_value (is_named name) old rows)
    ∙ sym (named_in other old) ∙ has
