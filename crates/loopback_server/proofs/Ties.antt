-- Keys tie in the index's order exactly where they are one.
use Rattle.std.proofs.Common.{◌≡◌, ℕ, Bool, true, false, cond, List, Option, Some, None, refl, sym, ap, ◌∙◌}
use Rattle.std.specs.Prelude.{is_some, unwrap_or}
use Rattle.std.specs.BTreeMap.{is_at}
use Rattle.std.specs.Map.{lookup}
use Rattle.std.specs.Str.{bytes_eq}
use Rattle.std.proofs.lemmas.Slice.Eq.{bytes_eq-Decides}
use Rattle.std.proofs.lemmas.Bool.{true≢false}
use Rattle.std.proofs.lemmas.Map.Text.{is_eq-slice_cmp}
use Rattle.client_tags.specs.declared.Kind.{Kind}
use Rattle.client_tags.specs.declared.Kind.TheVariants.{Nigori, Preference, Password}
use Rattle.client_tags.specs.declared.hash.TagHash.{TagHash}
use Rattle.loopback_server.specs.declared.write.EntityKey.{EntityKey}
use Rattle.loopback_server.specs.Indexes.{is_key, indexed, version_at, HasPlace}
use Rattle.loopback_server.specs.contracts.write.EntityKeyOrd.TheImpl.{cmp-value}

abbrev pub key_with : Kind → TagHash → EntityKey
key_with kind hash = record { kind = kind; hash = hash }

by_kinds : (k l : Kind) (h g : TagHash) → is_at (cmp-value.it (key_with k h)) (key_with l g) ≡ is_key (key_with k h) (key_with l g)
by_kinds Nigori Nigori h g = is_eq-slice_cmp h g
by_kinds Nigori Preference h g = refl
by_kinds Nigori Password h g = refl
by_kinds Preference Nigori h g = refl
by_kinds Preference Preference h g = is_eq-slice_cmp h g
by_kinds Preference Password h g = refl
by_kinds Password Nigori h g = refl
by_kinds Password Preference h g = refl
by_kinds Password Password h g = is_eq-slice_cmp h g

pub ties : (a b : EntityKey) → is_at (cmp-value.it a) b ≡ is_key a b
ties a b = by_kinds a.kind b.kind a.hash b.hash

-- what a map tells at a key is what the index has there
pub same_lookup : (index : List (EntityKey × ℕ)) (key : EntityKey) → lookup (is_at (cmp-value.it key)) index ≡ indexed index key
same_lookup index key = λ i. lookup (λ other. ties key other i) index

-- what an index has after an insertion
pub updated : (old new : List (EntityKey × ℕ)) (key : EntityKey) (value : Option ℕ)
    → ((other : EntityKey) → lookup (is_at (cmp-value.it other)) new ≡ cond (is_at (cmp-value.it key) other) value (lookup (is_at (cmp-value.it other)) old))
    → (other : EntityKey) → indexed new other ≡ cond (is_key key other) value (indexed old other)
updated old new key value updates other =
    sym (same_lookup new other) ∙ updates other ∙ (λ i. cond (ties key other i) value (same_lookup old other i))

-- keys that are one are equal
one_hash : (kind : Kind) (h g : TagHash) → bytes_eq h g ≡ true → key_with kind h ≡ key_with kind g
one_hash kind h g same = λ i. record { kind = kind; hash = (bytes_eq-Decides h g).0 same i }

one_by : (k l : Kind) (h g : TagHash) → is_key (key_with k h) (key_with l g) ≡ true → key_with k h ≡ key_with l g
one_by Nigori Nigori h g same = one_hash Nigori h g same
one_by Nigori Preference h g same = absurd (true≢false (sym same))
one_by Nigori Password h g same = absurd (true≢false (sym same))
one_by Preference Nigori h g same = absurd (true≢false (sym same))
one_by Preference Preference h g same = one_hash Preference h g same
one_by Preference Password h g same = absurd (true≢false (sym same))
one_by Password Nigori h g same = absurd (true≢false (sym same))
one_by Password Preference h g same = absurd (true≢false (sym same))
one_by Password Password h g same = one_hash Password h g same

pub one_key : (a b : EntityKey) → is_key a b ≡ true → a ≡ b
one_key a b same = one_by a.kind b.kind a.hash b.hash same

-- a key is itself
itself_by : (kind : Kind) (h : TagHash) → is_key (key_with kind h) (key_with kind h) ≡ true
itself_by Nigori h = (bytes_eq-Decides h h).1 refl
itself_by Preference h = (bytes_eq-Decides h h).1 refl
itself_by Password h = (bytes_eq-Decides h h).1 refl

key_is_itself : (key : EntityKey) → is_key key key ≡ true
key_is_itself key = itself_by key.kind key.hash

by_same : (found : Option ℕ) (same : Bool) → (same ≡ true → found ≡ None) → unwrap_or (cond same (Some 0) found) 0 ≡ unwrap_or found 0
by_same found true absent = ap (λ f. unwrap_or f 0) (sym (absent refl))
by_same found false absent = refl

nothing : (found : Option ℕ) → is_some found ≡ false → found ≡ None
nothing None is = refl
nothing (Some n) is = cc

-- a place that was made for a key that had none reads as 0, as before
pub same_versions : (old new : List (EntityKey × ℕ)) (key : EntityKey) → is_some (indexed old key) ≡ false
    → ((other : EntityKey) → indexed new other ≡ cond (is_key key other) (Some 0) (indexed old other))
    → (other : EntityKey) → version_at new other ≡ version_at old other
same_versions old new key absent updates other =
    ap (λ found. unwrap_or found 0) (updates other)
    ∙ by_same (indexed old other) (is_key key other) (λ same. ap (indexed old) (sym (one_key key other same)) ∙ nothing (indexed old key) absent)

some_there : (found : Option ℕ) (same : Bool) (value : ℕ) → is_some found ≡ true → is_some (cond same (Some value) found) ≡ true
some_there found true value has = refl
some_there found false value has = has

-- each place that there was is there
pub kept_place : (old new : List (EntityKey × ℕ)) (key : EntityKey) (value : ℕ)
    → ((other : EntityKey) → indexed new other ≡ cond (is_key key other) (Some value) (indexed old other))
    → (other : EntityKey) → HasPlace old other → HasPlace new other
kept_place old new key value updates other has = ap is_some (updates other) ∙ some_there (indexed old other) (is_key key other) value has

-- a key that was set has its place
pub own_place : (old new : List (EntityKey × ℕ)) (key : EntityKey) (value : ℕ)
    → ((other : EntityKey) → indexed new other ≡ cond (is_key key other) (Some value) (indexed old other)) → HasPlace new key
own_place old new key value updates =
    ap is_some (updates key ∙ ap (λ same. cond same (Some value) (indexed old key)) (key_is_itself key))

-- a key that has its place is in the map
pub placed_is_there : (index : List (EntityKey × ℕ)) (key : EntityKey) → HasPlace index key → lookup (is_at (cmp-value.it key)) index ≡ None → ⊥
placed_is_there index key place absent =
    true≢false (sym place ∙ ap is_some (sym (same_lookup index key) ∙ absent))
