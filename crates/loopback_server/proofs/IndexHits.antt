-- The entries of an index that a get-updates asks for have the versions of the wanted writes.
use Rattle.std.proofs.Common.{◌≡◌, ℕ, ◌<◌, Bool, true, false, List, [], ◌∷◌, Option, Some, None, refl, sym, ap, subst, ◌∙◌, arith}
use Rattle.std.specs.Prelude.{◌&&◌, ◌||◌, ◌==◌, unwrap_or}
use Rattle.std.specs.BTreeMap.{is_at}
use Rattle.std.specs.BTreeSet.{BTreeSet}
use Rattle.std.specs.List.{All, Any, list_any, slice_get}
use Rattle.std.specs.List.Sorted.{IsStrictlySortedBy}
use Rattle.std.specs.Map.{lookup}
use Rattle.std.specs.Ordering.{nat_cmp}
use Rattle.std.proofs.lemmas.Bool.{eqb-true, eq-eqb, and_parts, and_from, false≢true}
use Rattle.std.proofs.lemmas.Cmp.{nat_cmp_total}
use Rattle.std.proofs.lemmas.List.Folds.{Any-from_list_any}
use Rattle.std.proofs.lemmas.Map.Entries.{place_from_lookup}
use Rattle.std.proofs.lemmas.Map.Keys.{any_passes_from_place}
use Rattle.std.proofs.lemmas.Map.Lookups.{btree_set_from_contains, exact_unsigned}
use Rattle.client_tags.specs.declared.Kind.{Kind}
use Rattle.sync_specifics.specs.declared.specifics.Specifics.{Specifics}
use Rattle.sync_model.proofs.Writes.{HasLast, has_last}
use Rattle.sync_model.specs.declared.message.Entry.{Entry}
use Rattle.sync_model.specs.declared.message.Key.{Key}
use Rattle.sync_model.specs.declared.message.Marker.{Marker}
use Rattle.sync_model.specs.History.{last_version, write_at}
use Rattle.sync_model.specs.Servers.{mark_of, is_above, is_wanted}
use Rattle.loopback_server.specs.declared.asked.Asked.{Asked}
use Rattle.loopback_server.specs.declared.write.EntityKey.{EntityKey}
use Rattle.loopback_server.specs.Indexes.{key_of, indexed, HasVersions}
use Rattle.loopback_server.specs.Pages.{asked_of, mark_in, wanted_versions}
use Rattle.loopback_server.specs.contracts.write.EntityKeyOrd.TheImpl.{cmp-value}
use Rattle.loopback_server.proofs.PageLemmas.{mark_is}
use Rattle.loopback_server.proofs.Ties.{key_with, ties, same_lookup, one_key}
use Rattle.loopback_server.proofs.WantedVersions.{wanted_by, has_version, versions_ascend}

-- an entry of an index is of a type that is asked for, has this version, and it is above the type's mark
abbrev pub hits : Asked → ℕ → EntityKey × ℕ → Bool
hits asked version entry = is_above (mark_in asked entry.0.kind) entry.1 && version == entry.1

-- each entry is what a look-up finds
abbrev pub AreFound : List (EntityKey × ℕ) → Type 0
AreFound index = All (λ e. lookup (is_at (cmp-value.it e.0)) index ≡ Some e.1) index

above_zero : (mark : Option ℕ) (version : ℕ) → is_above mark version ≡ true → 0 < version
above_zero None version above = absurd (false≢true above)
above_zero (Some mark) version above = grind (arith, above)

same_tests : (a b : Bool) → (a ≡ true → b ≡ true) → (b ≡ true → a ≡ true) → a ≡ b
same_tests true b there back = sym (there refl)
same_tests false true there back = back refl
same_tests false false there back = refl

-- the mark of a key's type, among those that are asked for
mark_at : (asked : Asked) (marks : List Marker) (kind : Kind) → asked ≡ asked_of marks → mark_in asked kind ≡ mark_of kind marks
mark_at asked marks kind is = ap (λ (a : Asked). mark_in a kind) is ∙ mark_is marks kind

-- the last write of a key is wanted where its version is above the mark
wanted_last : (marks : List Marker) (history : List (Entry (Option Specifics))) (key : Key) (version : ℕ)
    → last_version history key ≡ version → is_above (mark_of key.kind marks) version ≡ true → 0 < version
    → wanted_by marks history version (write_at history version) ≡ true
wanted_last marks history key version last above positive =
    let found : HasLast history key = has_last history key (omega (arith, last, positive)) in
    ap (λ write. wanted_by marks history version write) (ap (write_at history) (sym last) ∙ found.at)
    ∙ and_from _ _
    (ap (λ (other : Key). last_version history other == version) found.is ∙ eq-eqb _ _ last)
    (ap (λ (other : Key). is_above (mark_of other.kind marks) version) found.is ∙ above)

-- an entry that hits has a wanted version
hit_wanted : (index : List (EntityKey × ℕ)) (history : List (Entry (Option Specifics))) (asked : Asked) (marks : List Marker) (version : ℕ) (entry : EntityKey × ℕ)
    → HasVersions index history → asked ≡ asked_of marks → lookup (is_at (cmp-value.it entry.0)) index ≡ Some entry.1
    → hits asked version entry ≡ true → wanted_by marks history version (write_at history version) ≡ true
hit_wanted index history asked marks version entry has is found hit =
    let parts : (is_above (mark_in asked entry.0.kind) entry.1 ≡ true) × ((version == entry.1) ≡ true) = and_parts _ _ hit in
    let same : version ≡ entry.1 = eqb-true version entry.1 parts.1 in
    let above : is_above (mark_of entry.0.kind marks) version ≡ true =
    ap (λ (n : ℕ). is_above (mark_of entry.0.kind marks) n) same
    ∙ ap (λ (mark : Option ℕ). is_above mark entry.1) (sym (mark_at asked marks entry.0.kind is)) ∙ parts.0 in
    wanted_last marks history (key_of entry.0) version
    (sym (has entry.0) ∙ ap (λ (at : Option ℕ). unwrap_or at 0) (sym (same_lookup index entry.0) ∙ found) ∙ sym same)
    above (above_zero (mark_of entry.0.kind marks) version above)

-- what is there and is not 0
some_there : (found : Option ℕ) (version : ℕ) → unwrap_or found 0 ≡ version → 0 < version → found ≡ Some version
some_there None version is above = absurd (omega (arith, is, above))
some_there (Some n) version is above = ap (λ (m : ℕ). Some m) is

-- a wanted version is that of an entry that hits
wanted_hit : (index : List (EntityKey × ℕ)) (history : List (Entry (Option Specifics))) (asked : Asked) (marks : List Marker) (version : ℕ) (write : Entry (Option Specifics))
    → HasVersions index history → asked ≡ asked_of marks → is_wanted marks history version write ≡ true → list_any (hits asked version) index ≡ true
wanted_hit index history asked marks version write has is wanted =
    let key : EntityKey = key_with write.key.kind write.key.hash in
    let parts : ((last_version history write.key == version) ≡ true) × (is_above (mark_of write.key.kind marks) version ≡ true) = and_parts _ _ wanted in
    let positive : 0 < version = above_zero (mark_of write.key.kind marks) version parts.1 in
    let there : indexed index key ≡ Some version = some_there (indexed index key) version (has key ∙ eqb-true _ _ parts.0) positive in
    let place : (i : ℕ) × (k : EntityKey) × (slice_get index i ≡ Some (k, version)) × (is_at (cmp-value.it key) k ≡ true)
    = place_from_lookup (is_at (cmp-value.it key)) index version (same_lookup index key ∙ there) in
    let one : key ≡ place.1 = one_key key place.1 (sym (ties key place.1) ∙ place.3) in
    any_passes_from_place (hits asked version) index place.0 (place.1, version) place.2
    (and_from _ _
    (ap (λ (k : EntityKey). is_above (mark_in asked k.kind) version) (sym one)
    ∙ ap (λ (mark : Option ℕ). is_above mark version) (mark_at asked marks write.key.kind is) ∙ parts.1)
    (eq-eqb version version refl))

pub hits_wanted : (index : List (EntityKey × ℕ)) (history : List (Entry (Option Specifics))) (asked : Asked) (marks : List Marker) (version : ℕ)
    → HasVersions index history → AreFound index → asked ≡ asked_of marks
    → list_any (hits asked version) index ≡ wanted_by marks history version (write_at history version)
hits_wanted index history asked marks version has found is =
    same_tests _ _ there (back (write_at history version))
  where
    there : list_any (hits asked version) index ≡ true → wanted_by marks history version (write_at history version) ≡ true
    there any =
        let one : Any (λ e. hits asked version e ≡ true) index = Any-from_list_any (hits asked version) index any in
        hit_wanted index history asked marks version one.1 has is
        (subst (λ (e : EntityKey × ℕ). lookup (is_at (cmp-value.it e.0)) index ≡ Some e.1) one.3 (found one.0 one.1 one.2)) one.4

    back : (write : Option (Entry (Option Specifics))) → wanted_by marks history version write ≡ true → list_any (hits asked version) index ≡ true
    back None wanted = absurd (false≢true wanted)
    back (Some write) wanted = wanted_hit index history asked marks version write has is wanted

-- a set of all versions that hit has those of the wanted writes, in their order
pub set_is : (versions : BTreeSet ℕ) (index : List (EntityKey × ℕ)) (history : List (Entry (Option Specifics))) (asked : Asked) (marks : List Marker)
    → IsStrictlySortedBy nat_cmp versions.keys → ((version : ℕ) → list_any (is_at (nat_cmp version)) versions.keys ≡ list_any (hits asked version) index)
    → HasVersions index history → AreFound index → asked ≡ asked_of marks → versions.keys ≡ wanted_versions marks history
set_is versions index history asked marks sorted same has found is =
    btree_set_from_contains nat_cmp_total versions (record { keys = wanted_versions marks history }) sorted (versions_ascend marks history history)
    (λ version. same version ∙ hits_wanted index history asked marks version has found is ∙ sym (has_version marks history history version)) exact_unsigned

-- before the first entry: all are left
pub hits_start : (asked : Asked) (version : ℕ) (index left : List (EntityKey × ℕ)) (versions : List ℕ) → left ≡ index → versions ≡ []
    → (list_any (hits asked version) left || list_any (is_at (nat_cmp version)) versions) ≡ list_any (hits asked version) index
hits_start asked version index left versions same none =
    (λ i. list_any (hits asked version) (same i) || list_any (is_at (nat_cmp version)) (none i)) ∙ or_false (list_any (hits asked version) index)
  where
    or_false : (a : Bool) → (a || false) ≡ a
    or_false true = refl
    or_false false = refl

-- one entry more
pub hits_step : (asked : Asked) (version : ℕ) (left rest : List (EntityKey × ℕ)) (key : EntityKey) (last : ℕ) (versions new : List ℕ) (is_wanted all : Bool)
    → left ≡ (key, last) ∷ rest → is_wanted ≡ is_above (mark_in asked key.kind) last
    → list_any (is_at (nat_cmp version)) new ≡ ((is_wanted && version == last) || list_any (is_at (nat_cmp version)) versions)
    → (list_any (hits asked version) left || list_any (is_at (nat_cmp version)) versions) ≡ all
    → (list_any (hits asked version) rest || list_any (is_at (nat_cmp version)) new) ≡ all
hits_step asked version left rest key last versions new is_wanted all is wanted more before =
    ap (λ (test : Bool). list_any (hits asked version) rest || test) (more ∙ ap (λ (test : Bool). (test && version == last) || list_any (is_at (nat_cmp version)) versions) wanted)
    ∙ other_order (list_any (hits asked version) rest) (hits asked version (key, last)) (list_any (is_at (nat_cmp version)) versions)
    ∙ ap (λ (entries : List (EntityKey × ℕ)). list_any (hits asked version) entries || list_any (is_at (nat_cmp version)) versions) (sym is)
    ∙ before
  where
    other_order : (a b c : Bool) → (a || (b || c)) ≡ ((b || a) || c)
    other_order true true c = refl
    other_order true false c = refl
    other_order false true c = refl
    other_order false false c = refl

-- after the last entry: none is left
pub hits_end : (asked : Asked) (version : ℕ) (left : List (EntityKey × ℕ)) (versions : List ℕ) (all : Bool) → left ≡ []
    → (list_any (hits asked version) left || list_any (is_at (nat_cmp version)) versions) ≡ all → list_any (is_at (nat_cmp version)) versions ≡ all
hits_end asked version left versions all none before =
    ap (λ (entries : List (EntityKey × ℕ)). list_any (hits asked version) entries || list_any (is_at (nat_cmp version)) versions) (sym none) ∙ before
