-- The keys of the locks of offers.
use Rattle.std.proofs.Common.{◌≡◌, ◌↔◌, ℕ, Bool, true, false, ◌&&◌, ◌||◌, not, if◌then◌else◌, List, [], ◌∷◌, Option, None, Some, IfSome, IsTrue, is_some, is_none, refl, sym, ap, subst, ◌∙◌}
use Rattle.std.specs.List.{list_all}
use Rattle.client_tags.specs.declared.Kind.{Kind}
use Rattle.client_tags.specs.declared.Kind.TheVariants as kinds
use Rattle.key_derivation.specs.declared.NigoriKey.{NigoriKey}
use Rattle.key_bag.specs.Bags.{Bag, IsBag, key_named, HasName}
use Rattle.sync_model.specs.declared.message.Offer.{Offer}
use Rattle.sync_model.specs.Values.{is_absent}
use Rattle.type_worker.specs.Sending.{needs_default, wanted_name, has_lock, have_own_locks, lacks_own_lock, have_locks, is_held_back}
use Rattle.type_worker.specs.Batches.{Held}
use Rattle.key_bag.proofs.Names.{tested}

same_truth : {P : Type 0} (test other : Bool) → (IsTrue test ↔ P) → (IsTrue other ↔ P) → test ≡ other
same_truth true true is too = refl
same_truth false false is too = refl
same_truth true false is too = sym (too.1 (is.0 refl))
same_truth false true is too = is.1 (too.0 refl)

-- a key is found under a name exactly where the name stands in the bag
found_exactly : (bag : Bag) (name : List ℕ) → IsTrue (has_lock bag (Some name)) ↔ HasName bag name
found_exactly bag name = tested bag.keys name (key_named bag.keys name) (is_some (key_named bag.keys name)) refl refl

-- a test whether a name stands in the bag is that whether its key does
pub has_by_name : (bag : Bag) (name : List ℕ) (test : Bool) → (IsTrue test ↔ HasName bag name) → test ≡ has_lock bag (Some name)
has_by_name bag name test is = same_truth test (has_lock bag (Some name)) is (found_exactly bag name)

-- the bag does not lack a name whose key it has
pub not_lacked : (bag : Bag) (name : List ℕ) → IsTrue (has_lock bag (Some name)) → HasName bag name
not_lacked bag name has = (found_exactly bag name).0 has

-- a name under which a key is found
pub has_found : (bag : Bag) (name : List ℕ) (key : NigoriKey) → key_named bag.keys name ≡ Some key → IsTrue (has_lock bag (Some name))
has_found bag name key found = ap is_some found

-- the bag has the key of its default name
pub has_default : (bag : Bag) (name : Option (List ℕ)) → IsBag bag → name ≡ bag.default → IsTrue (has_lock bag name)
has_default bag None is_bag same = refl
has_default bag (Some name) is_bag same = (found_exactly bag name).1 (subst (λ default. IfSome default (HasName bag)) (sym same) is_bag.default_stands)

-- what is offered of preferences and logins is sealed under the name that is wanted, or not at all
each_has : (bag : Bag) (name : Option (List ℕ)) (absent : Bool) → IsTrue (has_lock bag name) → IsTrue (has_lock bag (if absent then None else name))
each_has bag name true has = refl
each_has bag name false has = has

both_true : (a b : Bool) → a ≡ true → b ≡ true → (a && b) ≡ true
both_true true true x y = refl
both_true true false x y = y
both_true false b x y = x

all_have : (bag : Bag) (name : Option (List ℕ)) (offers : List Offer) → IsTrue (has_lock bag name) →
    IsTrue (list_all (λ offer. has_lock bag (if is_absent offer.value then None else name)) offers)
all_have bag name [] has = refl
all_have bag name (offer ∷ offers) has =
    both_true (has_lock bag (if is_absent offer.value then None else name)) (list_all (λ other. has_lock bag (if is_absent other.value then None else name)) offers)
    (each_has bag name (is_absent offer.value) has) (all_have bag name offers has)

not_false : (test : Bool) → not test ≡ false → IsTrue test
not_false true is = refl
not_false false is = sym is

-- the bag has the keys of all that is offered, unless it lacks that of an own lock
pub have_all : (bag : Bag) (kind : Kind) (name : Option (List ℕ)) (offers : List Offer) → IsTrue (has_lock bag name) → lacks_own_lock bag kind offers ≡ false →
    IsTrue (have_locks bag kind name offers)
have_all bag kinds.Nigori name offers has lacks = not_false (have_own_locks bag offers) lacks
have_all bag kinds.Preference name offers has lacks = all_have bag name offers has
have_all bag kinds.Password name offers has lacks = all_have bag name offers has

-- the default key is missing where its name is wanted and there is none
pub lacks_default : (bag : Bag) (seals : Bool) (kind : Kind) → (needs_default seals kind && is_none (wanted_name bag seals kind)) ≡ (needs_default seals kind && not (is_some bag.default))
lacks_default bag seals kind = by_need (needs_default seals kind) bag.default
  where
    by_need : (needs : Bool) (default : Option (List ℕ)) → (needs && is_none (if needs then default else None)) ≡ (needs && not (is_some default))
    by_need true None = refl
    by_need true (Some name) = refl
    by_need false default = refl

-- the bag's test of a value's own lock
pub own_has : (bag : Bag) (name slice : List ℕ) (own : Option (List ℕ)) (test : Bool) → Some name ≡ own → slice ≡ name → (IsTrue test ↔ HasName bag slice) → test ≡ has_lock bag own
own_has bag name slice own test is same has = has_by_name bag slice test has ∙ ap (λ (of : List ℕ). has_lock bag (Some of)) same ∙ ap (has_lock bag) is

never_both : (a b c : Bool) → (a || b || c) ≡ false → c ≡ false
never_both true b c is = absurd (never is)
  where
    never : true ≡ false → ⊥
    never is = cc
never_both false true c is = absurd (never is)
  where
    never : true ≡ false → ⊥
    never is = cc
never_both false false c is = is

-- what is not held back lacks no own lock
pub lacks_none : (held : Held) (bag : Bag) (seals : Bool) (offers : List Offer) → is_held_back held bag seals offers ≡ false → lacks_own_lock bag held.kind offers ≡ false
lacks_none held bag seals offers is =
    never_both (is_some held.pending) (needs_default seals held.kind && not (is_some bag.default)) (lacks_own_lock bag held.kind offers) is

-- the bag has the keys of all that is sent
pub sent_have : (held : Held) (kind : Kind) (bag : Bag) (seals test : Bool) (name : Option (List ℕ)) (offers slice again : List Offer) → kind ≡ held.kind → slice ≡ offers →
    again ≡ offers → IsTrue (has_lock bag name) → test ≡ is_held_back held bag seals slice → test ≡ false → IsTrue (have_locks bag kind name again)
sent_have held kind bag seals test name offers slice again same_kind same same_again has is not_held =
    subst (λ (of : Kind). IsTrue (have_locks bag of name again)) (sym same_kind)
    (have_all bag held.kind name again has
    (ap (lacks_own_lock bag held.kind) (same_again ∙ sym same) ∙ lacks_none held bag seals slice (sym is ∙ not_held)))
