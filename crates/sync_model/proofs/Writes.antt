-- Keys, and the writes of a history: which is the last of a key, and what stays so under a further write.
use Rattle.std.proofs.Common.{◌≡◌, ℕ, suc, ◌+◌, ◌<◌, ◌≤◌, Bool, true, false, cond, List, [], ◌∷◌, length, Some, None, refl, sym, ap, ◌∙◌, eqb, arith, bytes_eq}
use Rattle.std.proofs.lemmas.Bool.{eqb-true, eq-eqb, ne_eqb, and_parts, and_from, false≢true, cond-true, cond-false}
use Rattle.std.proofs.lemmas.Option.{none-some, same_Some}
use Rattle.std.proofs.lemmas.Slice.Eq.{bytes_eq-Decides}
use Rattle.client_tags.specs.declared.Kind.{Kind}
use Rattle.client_tags.specs.declared.Kind.TheVariants.{Nigori, Preference, Password}
use Rattle.sync_values.specs.declared.value.Value.{Value}
use Rattle.sync_model.specs.declared.message.Content.{Content}
use Rattle.sync_model.specs.declared.message.Entry.{Entry}
use Rattle.sync_model.specs.declared.message.Key.{Key}
use Rattle.sync_model.specs.Values.{same_kind, same_key}
use Rattle.sync_model.specs.History.{last_version, last_write, write_at}
use Rattle.sync_model.specs.Facts.{IsWriteOf}

-- two types that are one are equal
pub same_kind-true : (a b : Kind) → same_kind a b ≡ true → a ≡ b
same_kind-true Nigori Nigori is = refl
same_kind-true Nigori Preference is = absurd (false≢true is)
same_kind-true Nigori Password is = absurd (false≢true is)
same_kind-true Preference Nigori is = absurd (false≢true is)
same_kind-true Preference Preference is = refl
same_kind-true Preference Password is = absurd (false≢true is)
same_kind-true Password Nigori is = absurd (false≢true is)
same_kind-true Password Preference is = absurd (false≢true is)
same_kind-true Password Password is = refl

pub same_kind-refl : (kind : Kind) → same_kind kind kind ≡ true
same_kind-refl Nigori = refl
same_kind-refl Preference = refl
same_kind-refl Password = refl

-- two keys that are one are equal
pub same_key-true : (a b : Key) → same_key a b ≡ true → a ≡ b
same_key-true a b is =
    let parts : (same_kind a.kind b.kind ≡ true) × (bytes_eq a.hash b.hash ≡ true) = and_parts _ _ is in
    ap (λ (kind : Kind). record a { kind = kind }) (same_kind-true a.kind b.kind parts.0)
    ∙ ap (λ (hash : List ℕ). record b { hash = hash }) ((bytes_eq-Decides a.hash b.hash).0 parts.1)

pub same_key-refl : (key : Key) → same_key key key ≡ true
same_key-refl key = and_from _ _ (same_kind-refl key.kind) ((bytes_eq-Decides key.hash key.hash).1 refl)

-- the last write of a key is within the history
last_by : (same : Bool) (rest len : ℕ) → rest ≤ len → cond same (len + 1) rest ≤ suc len
last_by true rest len le = omega arith
last_by false rest len le = omega arith

pub last_version-le : {C : Type 0} (history : List (Entry C)) (key : Key) → last_version history key ≤ length history
last_version-le [] key = omega arith
last_version-le (write ∷ older) key =
    last_by (same_key write.key key) (last_version older key) (length older) (last_version-le older key)

-- a write stands within the history
within_by : {C : Type 0} (history : List (Entry C)) (is : Bool) (version : ℕ) (write found : Entry C)
    → eqb version (length history + 1) ≡ is → cond is (Some write) (write_at history version) ≡ Some found
    → (write_at history version ≡ Some found → version ≤ length history) → version ≤ suc (length history)
within_by history true version write found is at older = omega (arith, eqb-true _ _ is)
within_by history false version write found is at older = omega (arith, older at)

pub write_at-le : {C : Type 0} (history : List (Entry C)) (version : ℕ) (write : Entry C)
    → write_at history version ≡ Some write → version ≤ length history
write_at-le [] version write at = absurd (none-some _ at)
write_at-le (next ∷ older) version write at =
    within_by older (eqb version (length older + 1)) version next write refl at (write_at-le older version write)

-- a write stays where it is under a further one
pub write_at-longer : {C : Type 0} (history : List (Entry C)) (version : ℕ) (next write : Entry C)
    → write_at history version ≡ Some write → write_at (next ∷ history) version ≡ Some write
write_at-longer history version next write at =
    let le : version ≤ length history = write_at-le history version write at in
    cond-false _ _ _ (ne_eqb version (length history + 1) (λ is. omega (arith, le, is))) ∙ at

pub IsWriteOf-longer : (history : List (Entry Content)) (next : Entry Content) (key : Key) (version : ℕ) (value : Value)
    → IsWriteOf history key version value → IsWriteOf (next ∷ history) key version value
IsWriteOf-longer history next key version value is = record {
  write = is.write;
  is_write = write_at-longer history version next is.write is.is_write;
  has_key = is.has_key;
  has_value = is.has_value;
}

-- the last write of another key stays the last one
pub last_version-longer : {C : Type 0} (history : List (Entry C)) (next : Entry C) (key : Key)
    → last_version (next ∷ history) key ≤ length history → last_version (next ∷ history) key ≡ last_version history key
last_version-longer history next key le = by (same_key next.key key) le
  where
    by : (same : Bool) → cond same (length history + 1) (last_version history key) ≤ length history
        → cond same (length history + 1) (last_version history key) ≡ last_version history key
    by true le = absurd (omega (arith, le))
    by false le = refl

-- a write of a key is not above the key's last one
le_last_by : {C : Type 0} (older : List (Entry C)) (key : Key) (is same : Bool) (version : ℕ) (next write : Entry C)
    → eqb version (length older + 1) ≡ is → same_key next.key key ≡ same
    → cond is (Some next) (write_at older version) ≡ Some write → write.key ≡ key
    → (write_at older version ≡ Some write → version ≤ last_version older key)
    → version ≤ cond same (length older + 1) (last_version older key)
le_last_by older key true true version next write is same at has rest = omega (arith, eqb-true _ _ is)
le_last_by older key true false version next write is same at has rest = absurd (false≢true
    (sym same ∙ ap (λ (other : Key). same_key other key) (ap (λ (e : Entry _). e.key) (same_Some next write at) ∙ has) ∙ same_key-refl key))
le_last_by older key false true version next write is same at has rest = omega (arith, write_at-le older version write at)
le_last_by older key false false version next write is same at has rest = rest at

pub le_last : {C : Type 0} (history : List (Entry C)) (key : Key) (version : ℕ) (write : Entry C)
    → write_at history version ≡ Some write → write.key ≡ key → version ≤ last_version history key
le_last [] key version write at has = absurd (none-some _ at)
le_last (next ∷ older) key version write at has =
    le_last_by older key (eqb version (length older + 1)) (same_key next.key key) version next write refl refl at has
    (λ at. le_last older key version write at has)

-- the write of the last version of a key is its last write
last_is_by : {C : Type 0} (older : List (Entry C)) (key : Key) (same : Bool) (next write : Entry C)
    → cond (eqb (cond same (length older + 1) (last_version older key)) (length older + 1)) (Some next)
    (write_at older (cond same (length older + 1) (last_version older key))) ≡ Some write
    → (write_at older (last_version older key) ≡ Some write → last_write older key ≡ Some write)
    → cond same (Some next) (last_write older key) ≡ Some write
last_is_by older key true next write at rest = sym (cond-true _ _ _ (eq-eqb (length older + 1) (length older + 1) refl)) ∙ at
last_is_by older key false next write at rest =
    let le : last_version older key ≤ length older = last_version-le older key in
    rest (sym (cond-false _ _ _ (ne_eqb (last_version older key) (length older + 1) (λ is. omega (arith, le, is)))) ∙ at)

pub last_is : {C : Type 0} (history : List (Entry C)) (key : Key) (write : Entry C)
    → write_at history (last_version history key) ≡ Some write → last_write history key ≡ Some write
last_is [] key write at = absurd (none-some _ at)
last_is (next ∷ older) key write at =
    last_is_by older key (same_key next.key key) next write at (last_is older key write)

-- a key whose last version is 0 has no write
none_by : {C : Type 0} (older : List (Entry C)) (key : Key) (same : Bool) (next : Entry C)
    → cond same (length older + 1) (last_version older key) ≡ 0
    → (last_version older key ≡ 0 → last_write older key ≡ None) → cond same (Some next) (last_write older key) ≡ None
none_by older key true next is rest = absurd (omega (arith, is))
none_by older key false next is rest = rest is

pub last_is_none : {C : Type 0} (history : List (Entry C)) (key : Key) → last_version history key ≡ 0 → last_write history key ≡ None
last_is_none [] key is = refl
last_is_none (next ∷ older) key is = none_by older key (same_key next.key key) next is (last_is_none older key)

-- a key whose last version is not 0 has a write of that version
pub record HasLast {C : Type 0} (history : List (Entry C)) (key : Key) : Type 0 where
  pub write : Entry C
  pub at : write_at history (last_version history key) ≡ Some write
  pub is : write.key ≡ key

has_last_by : {C : Type 0} (older : List (Entry C)) (key : Key) (same : Bool) (next : Entry C)
    → same_key next.key key ≡ same → (0 < last_version older key → HasLast older key)
    → 0 < cond same (length older + 1) (last_version older key)
    → (write : Entry C) × (cond (eqb (cond same (length older + 1) (last_version older key)) (length older + 1)) (Some next)
    (write_at older (cond same (length older + 1) (last_version older key))) ≡ Some write) × (write.key ≡ key)
has_last_by older key true next same rest above =
    (next, cond-true _ _ _ (eq-eqb (length older + 1) (length older + 1) refl), same_key-true next.key key same)
has_last_by older key false next same rest above =
    let found : HasLast older key = rest above in
    (found.write, write_at-longer older (last_version older key) next found.write found.at, found.is)

pub has_last : {C : Type 0} (history : List (Entry C)) (key : Key) → 0 < last_version history key → HasLast history key
has_last [] key above = absurd (omega (arith, above))
has_last (next ∷ older) key above =
    let found : (write : Entry _) × (write_at (next ∷ older) (last_version (next ∷ older) key) ≡ Some write) × (write.key ≡ key)
    = has_last_by older key (same_key next.key key) next refl (has_last older key) above in
    record { write = found.0; at = found.1; is = found.2 }
