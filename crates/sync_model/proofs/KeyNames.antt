-- Inclusion of names: some names are all among others.
use Rattle.std.proofs.Common.{◌≡◌, ℕ, Bool, true, false, ◌||◌, List, [], ◌∷◌, ◌++◌, refl, sym, ap, ◌∙◌, subst, bytes_eq}
use Rattle.std.proofs.lemmas.Bool.{false≢true, and_parts, and_from, cond_both}
use Rattle.std.proofs.lemmas.List.{map-append}
use Rattle.std.proofs.lemmas.List.Folds.{list_all-append}
use Rattle.std.proofs.lemmas.Slice.Eq.{bytes_eq-Decides}
use Rattle.key_derivation.specs.declared.NigoriKey.{NigoriKey}
use Rattle.sync_model.specs.Values.{has_name, has_names}
use Rattle.sync_model.specs.Settings.{Setting, names_of, has_key, with_key, with_keys}
use Rattle.sync_model.specs.KeyFacts.{HaveNames}

or_left : (a b : Bool) → a ≡ true → (a || b) ≡ true
or_left a b is = ap (λ (c : Bool). c || b) is

or_right : (a b : Bool) → b ≡ true → (a || b) ≡ true
or_right true b is = refl
or_right false b is = is

-- a name that is among others is among these with one more
has_name-more : (more : List ℕ) (names : List (List ℕ)) (name : List ℕ) → has_name names name ≡ true → has_name (more ∷ names) name ≡ true
has_name-more more names name is = or_right (bytes_eq name more) (has_name names name) is

has_names-more : (more : List ℕ) (names others : List (List ℕ)) → has_names names others ≡ true → has_names (more ∷ names) others ≡ true
has_names-more more names [] is = refl
has_names-more more names (other ∷ others) is =
    let parts = and_parts (has_name names other) (has_names names others) is
    in and_from _ _ (has_name-more more names other parts.0) (has_names-more more names others parts.1)

-- names are all among themselves
pub has_names-self : (names : List (List ℕ)) → has_names names names ≡ true
has_names-self [] = refl
has_names-self (name ∷ names) =
    and_from _ _ (or_left (bytes_eq name name) (has_name names name) ((bytes_eq-Decides name name).1 refl))
    (has_names-more name names names (has_names-self names))

has_name_by : (names : List (List ℕ)) (other name : List ℕ) (others : List (List ℕ)) (here : Bool) → bytes_eq name other ≡ here
    → has_name names other ≡ true → (here || has_name others name) ≡ true → (has_name others name ≡ true → has_name names name ≡ true)
    → has_name names name ≡ true
has_name_by names other name others true at has is below =
    subst (λ (word : List ℕ). has_name names word ≡ true) (sym ((bytes_eq-Decides name other).0 at)) has
has_name_by names other name others false at has is below = below is

-- a name among names that are all among others is among those
has_name-through : (names others : List (List ℕ)) (name : List ℕ) → has_names names others ≡ true → has_name others name ≡ true
    → has_name names name ≡ true
has_name-through names [] name all is = absurd (false≢true is)
has_name-through names (other ∷ others) name all is =
    let parts = and_parts (has_name names other) (has_names names others) all
    in has_name_by names other name others (bytes_eq name other) refl parts.0 is (λ below. has_name-through names others name parts.1 below)

-- inclusion goes on
pub has_names-through : (names others rest : List (List ℕ)) → has_names names others ≡ true → has_names others rest ≡ true
    → has_names names rest ≡ true
has_names-through names others [] all is = refl
has_names-through names others (name ∷ rest) all is =
    let parts = and_parts (has_name others name) (has_names others rest) is
    in and_from _ _ (has_name-through names others name all parts.0) (has_names-through names others rest all parts.1)

-- two lists of names are among others
pub has_names-both : (names first second : List (List ℕ)) → has_names names first ≡ true → has_names names second ≡ true
    → has_names names (first ++ second) ≡ true
has_names-both names first second is also = list_all-append (has_name names) first second ∙ and_from _ _ is also

-- the parts of a list of names are among others
pub has_names-parts : (names first second : List (List ℕ)) → has_names names (first ++ second) ≡ true
    → (has_names names first ≡ true) × (has_names names second ≡ true)
has_names-parts names first second is = and_parts _ _ (sym (list_all-append (has_name names) first second) ∙ is)

-- the parts of names are among these
has_names-left : (first second : List (List ℕ)) → has_names (first ++ second) first ≡ true
has_names-left first second = (has_names-parts (first ++ second) first second (has_names-self (first ++ second))).0

has_names-right : (first second : List (List ℕ)) → has_names (first ++ second) second ≡ true
has_names-right first second = (has_names-parts (first ++ second) first second (has_names-self (first ++ second))).1

-- a bag with a further key has all that it had
pub with_key-keeps : (setting : Setting) (bag : List NigoriKey) (key : NigoriKey) → HaveNames setting (with_key setting bag key) (names_of setting bag)
with_key-keeps setting bag key =
    cond_both (has_key setting bag (setting.key_name key)) bag (bag ++ key ∷ []) (λ (keys : List NigoriKey). HaveNames setting keys (names_of setting bag))
    (λ has. has_names-self (names_of setting bag))
    (λ lacks. subst (λ (names : List (List ℕ)). has_names names (names_of setting bag) ≡ true) (sym (map-append setting.key_name bag (key ∷ [])))
    (has_names-left (names_of setting bag) (names_of setting (key ∷ []))))

-- a bag with a further key has that one
pub with_key-has : (setting : Setting) (bag : List NigoriKey) (key : NigoriKey) → HaveNames setting (with_key setting bag key) (setting.key_name key ∷ [])
with_key-has setting bag key =
    cond_both (has_key setting bag (setting.key_name key)) bag (bag ++ key ∷ []) (λ (keys : List NigoriKey). HaveNames setting keys (setting.key_name key ∷ []))
    (λ has. and_from _ _ has refl)
    (λ lacks. subst (λ (names : List (List ℕ)). has_names names (setting.key_name key ∷ []) ≡ true) (sym (map-append setting.key_name bag (key ∷ [])))
    (has_names-right (names_of setting bag) (names_of setting (key ∷ []))))

-- a bag with further keys has all that it had
pub with_keys-keeps : (setting : Setting) (bag keys : List NigoriKey) → HaveNames setting (with_keys setting bag keys) (names_of setting bag)
unfolding with_keys
with_keys-keeps setting bag [] = has_names-self (names_of setting bag)
with_keys-keeps setting bag (key ∷ keys) =
    has_names-through (names_of setting (with_keys setting (with_key setting bag key) keys)) (names_of setting (with_key setting bag key)) (names_of setting bag)
    (with_keys-keeps setting (with_key setting bag key) keys) (with_key-keeps setting bag key)

-- a bag with further keys has these
pub with_keys-has : (setting : Setting) (bag keys : List NigoriKey) → HaveNames setting (with_keys setting bag keys) (names_of setting keys)
unfolding with_keys
with_keys-has setting bag [] = refl
with_keys-has setting bag (key ∷ keys) =
    has_names-both (names_of setting (with_keys setting (with_key setting bag key) keys)) (setting.key_name key ∷ []) (names_of setting keys)
    (has_names-through (names_of setting (with_keys setting (with_key setting bag key) keys)) (names_of setting (with_key setting bag key)) (setting.key_name key ∷ [])
    (with_keys-keeps setting (with_key setting bag key) keys) (with_key-has setting bag key))
    (with_keys-has setting (with_key setting bag key) keys)
