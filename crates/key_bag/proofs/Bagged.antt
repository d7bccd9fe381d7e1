-- What changes of a bag keep.
use Rattle.std.proofs.Common.{◌≡◌, ◌≢◌, ℕ, true, false, List, [], ◌∷◌, ◌++◌, Option, None, Some, refl, sym, ap, subst, ◌∙◌}
use Rattle.std.specs.List.{AllPairs, Contains}
use Rattle.std.specs.Option.{IfSome}
use Rattle.std.proofs.lemmas.List.{map-append}
use Rattle.std.proofs.lemmas.List.Elements.{All-push, Contains-get_or, Contains-append_left}
use Rattle.std.proofs.lemmas.List.Quantifiers.{all_pairs_push}
use Rattle.key_derivation.specs.declared.NigoriKey.{NigoriKey}
use Rattle.nigori.specs.Sealing.{key_name}
use Rattle.key_bag.specs.declared.named.NamedKey.{NamedKey}
use Rattle.key_bag.specs.Bags.{Bag, IsBag, IsNamed, HasBlocks, HasName, names_of, named_by_itself, key_named, with_key}
use Rattle.key_bag.proofs.Names.{lacked}

-- the names after one more key
names_after : (bag : Bag) (key : NigoriKey) → names_of bag ++ key_name key ∷ [] ≡ names_of (with_key bag key)
names_after bag key = sym (map-append (λ named. named.name) bag.keys (named_by_itself key ∷ []))

still_stands : (bag : Bag) (key : NigoriKey) (default : Option (List ℕ)) → IfSome default (HasName bag) → IfSome default (HasName (with_key bag key))
still_stands bag key None stands = tt
still_stands bag key (Some name) stands =
    subst (λ names. Contains names name) (names_after bag key) (Contains-append_left (names_of bag) (key_name key ∷ []) name stands)

-- a bag with one more key, whose name it lacked
pub bag_with_key : (bag : Bag) (key : NigoriKey) → IsBag bag → HasBlocks key → (HasName bag (key_name key) → ⊥) → IsBag (with_key bag key)
bag_with_key bag key is blocks lacks = record {
  named = All-push IsNamed bag.keys (named_by_itself key) is.named (record { own_name = refl; blocks = blocks });
  distinct = subst (AllPairs (λ name other. name ≢ other)) (names_after bag key)
      (all_pairs_push (λ name other. name ≢ other) (names_of bag) (key_name key) is.distinct
      (λ k d below same. lacks (subst (Contains (names_of bag)) same (Contains-get_or (names_of bag) k d below))));
  default_stands = still_stands bag key bag.default is.default_stands;
}

-- what a push of a key under its own name makes of a bag that lacked the name
pub bag_with_push : (old new : Bag) (key : NigoriKey) (named : NamedKey) (name : List ℕ) → IsBag old → named ≡ named_by_itself key → HasBlocks key →
    name ≡ named.name → (HasName old name → false ≡ true) → new.keys ≡ old.keys ++ named ∷ [] → new.default ≡ old.default → IsBag new
bag_with_push old new key named name is is_own blocks is_name lacks pushed kept =
    subst IsBag same (bag_with_key old key is blocks (λ stands. never (lacks (subst (HasName old) (sym own_name) stands))))
  where
    own_name : name ≡ key_name key
    own_name = is_name ∙ ap (λ named. named.name) is_own

    never : false ≡ true → ⊥
    never same = cc

    same : with_key old key ≡ new
    same =
        ap (λ (named : NamedKey). record old { keys = old.keys ++ named ∷ [] }) (sym is_own)
        ∙ ap (λ (keys : List NamedKey). record old { keys = keys }) (sym pushed)
        ∙ ap (λ (default : Option (List ℕ)). record new { default = default }) (sym kept)

default_of : (bag : Bag) (name : List ℕ) (default : Option (List ℕ)) → IfSome default (HasName bag) → default ≡ Some name → HasName bag name
default_of bag name None stands same = cc
default_of bag name (Some other) stands same = subst (HasName bag) (unwrapped same) stands
  where
    unwrapped : Some other ≡ Some name → other ≡ name
    unwrapped same = cc

-- the default key is found
pub default_is_found : (bag : Bag) (name : List ℕ) → IsBag bag → bag.default ≡ Some name → key_named bag.keys name ≡ None → ⊥
default_is_found bag name is same none = lacked bag.keys name none (default_of bag name bag.default is.default_stands same)
