-- Facts on histories: where a write is, that it stays there, and that it is there once.
use Rattle.std.proofs.Common.{◌≡◌, ℕ, zero, suc, ◌+◌, ◌<◌, ◌≤◌, Bool, true, false, cond, ◌&&◌, List, [], ◌∷◌, length, slice_get, Option, Some, None, refl, sym, ap, ap₂, ◌∙◌, subst, eqb, eq-eqb, le_trans, le_of_eq, arith}
use Rattle.std.proofs.lemmas.Bool.{eqb-true, cond-true, cond-false, cond_both, false_from_ne_true}
use Rattle.std.proofs.lemmas.Option.{none-some, same_Some}
use Rattle.std.proofs.lemmas.Slice.Eq.{bytes_eq-Decides}
use Rattle.client_tags.specs.declared.Kind.{Kind}
use Rattle.client_tags.specs.declared.Kind.TheVariants.{Nigori, Preference, Password}
use Rattle.sync_model.specs.declared.message.Answer.{Answer}
use Rattle.sync_model.specs.declared.message.Answer.TheVariants.{Success, Conflict, Invalid, OverQuota}
use Rattle.sync_model.specs.declared.message.Entry.{Entry}
use Rattle.sync_model.specs.declared.message.Key.{Key}
use Rattle.sync_model.specs.Values.{same_kind, same_key}
use Rattle.sync_model.specs.History.{last_version, write_at, is_over_quota, answer_to, history_with, committed, answers_to, IsBased}

-- a type is itself
same_kind-self : (kind : Kind) → same_kind kind kind ≡ true
same_kind-self Nigori = refl
same_kind-self Preference = refl
same_kind-self Password = refl

-- a key is itself
pub same_key-self : (key : Key) → same_key key key ≡ true
same_key-self key = ap₂ (λ (a b : Bool). a && b) (same_kind-self key.kind) ((bytes_eq-Decides key.hash key.hash).1 refl)

-- a version is within the history
pub last_version-le : {C : Type 0} (history : List (Entry C)) (key : Key) → last_version history key ≤ length history
last_version-le [] key = omega arith
last_version-le (write ∷ older) key =
    cond_both (same_key write.key key) (length older + 1) (last_version older key) (λ version. version ≤ suc (length older))
    (λ here. omega arith) (λ there. omega (arith, last_version-le older key))

-- a key's last version never falls
pub last_version-grows : {C : Type 0} (write : Entry C) (older : List (Entry C)) (key : Key)
    → last_version older key ≤ last_version (write ∷ older) key
last_version-grows write older key =
    cond_both (same_key write.key key) (length older + 1) (last_version older key) (λ version. last_version older key ≤ version)
    (λ here. omega (arith, last_version-le older key)) (λ there. omega arith)

by_place : {C P : Type 0} (write newest : Entry C) (older : List (Entry C)) (version : ℕ) (here : Bool)
    → eqb version (length older + 1) ≡ here → cond here (Some newest) (write_at older version) ≡ Some write
    → (version ≡ length older + 1 → newest ≡ write → P) → (write_at older version ≡ Some write → P) → P
by_place write newest older version true at is top below = top (eqb-true _ _ at) (same_Some newest write is)
by_place write newest older version false at is top below = below is

-- a write is the newest one, or an older one
pub at_top : {C P : Type 0} (write newest : Entry C) (older : List (Entry C)) (version : ℕ) → write_at (newest ∷ older) version ≡ Some write
    → (version ≡ length older + 1 → newest ≡ write → P) → (write_at older version ≡ Some write → P) → P
at_top write newest older version is top below =
    by_place write newest older version (eqb version (length older + 1)) refl is top below

-- a write's version is within the history
pub write_at-le : {C : Type 0} (history : List (Entry C)) (version : ℕ) (write : Entry C) → write_at history version ≡ Some write
    → version ≤ length history
write_at-le [] version write is = absurd (none-some write is)
write_at-le (newest ∷ older) version write is =
    at_top write newest older version is (λ at same. omega (arith, at))
    (λ before. omega (arith, write_at-le older version write before))

-- the newest write is at the version of the whole history
pub write_at-newest : {C : Type 0} (newest : Entry C) (older : List (Entry C)) → write_at (newest ∷ older) (length older + 1) ≡ Some newest
write_at-newest newest older = cond-true _ _ _ (eq-eqb (length older + 1) (length older + 1) refl)

-- a write stays at its version
pub write_at-kept : {C : Type 0} (newest : Entry C) (older : List (Entry C)) (version : ℕ) (write : Entry C)
    → write_at older version ≡ Some write → write_at (newest ∷ older) version ≡ Some write
write_at-kept newest older version write is =
    cond-false (eqb version (length older + 1)) (Some newest) (write_at older version)
    (false_from_ne_true _ (λ at. let place = eqb-true version (length older + 1) at in omega (arith, place, write_at-le older version write is)))
    ∙ is

-- a write is above the version that it is based on, and not above its key's last version
pub write_at-bounds : {C : Type 0} (history : List (Entry C)) → IsBased history → (version : ℕ) (write : Entry C)
    → write_at history version ≡ Some write → (write.version < version) × (version ≤ last_version history write.key)
write_at-bounds [] based version write is = absurd (none-some write is)
write_at-bounds {C} (newest ∷ older) based version write is =
    at_top write newest older version is
    (λ at same. subst (λ (found : Entry C). (found.version < version) × (version ≤ last_version (newest ∷ older) found.key)) same (
      omega (arith, at, based.0, last_version-le older newest.key),
      le_of_eq (at ∙ sym (cond-true _ _ _ (same_key-self newest.key))),
    ))
    (λ before. let bounds = write_at-bounds older based.1 version write before
    in (bounds.0, le_trans bounds.1 (last_version-grows newest older write.key)))

-- the newest write is no older one
newest-is_new : {C : Type 0} (write newest : Entry C) (older : List (Entry C)) (version : ℕ) → IsBased older
    → newest.version ≡ last_version older newest.key → newest ≡ write → write_at older version ≡ Some write → ⊥
newest-is_new {C} write newest older version based last same before =
    let bounds = write_at-bounds older based version write before
    in let is_last : write.version ≡ last_version older write.key
    = subst (λ (found : Entry C). found.version ≡ last_version older found.key) same last
    in omega (arith, bounds.0, bounds.1, is_last)

-- a write is at one version
pub write_at-once : {C : Type 0} (history : List (Entry C)) → IsBased history → (write : Entry C) (first second : ℕ)
    → write_at history first ≡ Some write → write_at history second ≡ Some write → first ≡ second
write_at-once [] based write first second is also = absurd (none-some write is)
write_at-once (newest ∷ older) based write first second is also =
    at_top write newest older first is
    (λ at same. at_top write newest older second also (λ place equal. at ∙ sym place)
    (λ before. absurd (newest-is_new write newest older second based.1 based.0 same before)))
    (λ earlier. at_top write newest older second also
    (λ place equal. absurd (newest-is_new write newest older first based.1 based.0 equal earlier))
    (λ before. write_at-once older based.1 write first second earlier before))

-- the version in an answer
version_in : Answer → Option ℕ
version_in (Success version) = Some version
version_in Conflict = None
version_in Invalid = None
version_in OverQuota = None

by_tests : (next version : ℕ) (invalid matches over : Bool)
    → cond invalid Invalid (cond matches (cond over OverQuota (Success next)) Conflict) ≡ Success version → next ≡ version
unfolding version_in
by_tests next version true matches over is = absurd (none-some version (ap version_in is))
by_tests next version false true true is = absurd (none-some version (ap version_in is))
by_tests next version false true false is = same_Some next version (ap version_in is)
by_tests next version false false over is = absurd (none-some version (ap version_in is))

-- an entry is stored as the next version
pub answer_to-next : {C : Type 0} (is_invalid : Entry C → Bool) (history : List (Entry C)) (entry : Entry C) (version : ℕ)
    → answer_to is_invalid history entry ≡ Success version → length history + 1 ≡ version
unfolding answer_to
answer_to-next is_invalid history entry version is =
    by_tests (length history + 1) version (is_invalid entry) (eqb entry.version (last_version history entry.key)) (is_over_quota history entry) is

-- an entry that is stored is the write of the version that its answer has
stored_at : {C : Type 0} (history : List (Entry C)) (entry : Entry C) (version : ℕ) (answer : Answer) → answer ≡ Success version
    → length history + 1 ≡ version → write_at (history_with history entry answer) version ≡ Some entry
stored_at {C} history entry version answer is at =
    subst (λ (given : Answer). write_at (history_with history entry given) version ≡ Some entry) (sym is)
    (subst (λ (place : ℕ). write_at (entry ∷ history) place ≡ Some entry) at (write_at-newest entry history))

-- an entry leaves each write at its version
history_with-kept : {C : Type 0} (history : List (Entry C)) (entry : Entry C) (answer : Answer) (version : ℕ) (write : Entry C)
    → write_at history version ≡ Some write → write_at (history_with history entry answer) version ≡ Some write
history_with-kept history entry (Success next) version write is = write_at-kept entry history version write is
history_with-kept history entry Conflict version write is = is
history_with-kept history entry Invalid version write is = is
history_with-kept history entry OverQuota version write is = is

-- a commit leaves each write at its version
pub committed-kept : {C : Type 0} (is_invalid : Entry C → Bool) (history : List (Entry C)) (entries : List (Entry C)) (version : ℕ) (write : Entry C)
    → write_at history version ≡ Some write → write_at (committed is_invalid history entries) version ≡ Some write
unfolding committed
committed-kept is_invalid history [] version write is = is
committed-kept is_invalid history (entry ∷ entries) version write is =
    committed-kept is_invalid (history_with history entry (answer_to is_invalid history entry)) entries version write
    (history_with-kept history entry (answer_to is_invalid history entry) version write is)

-- an entry whose answer is a success is the write of that version
pub committed-stores : {C : Type 0} (is_invalid : Entry C → Bool) (history : List (Entry C)) (entries : List (Entry C)) (place version : ℕ)
    → slice_get (answers_to is_invalid history entries) place ≡ Some (Success version)
    → (entry : Entry C) × (slice_get entries place ≡ Some entry) × (write_at (committed is_invalid history entries) version ≡ Some entry)
unfolding answers_to committed
committed-stores is_invalid history [] place version is = absurd (none-some (Success version) is)
committed-stores is_invalid history (entry ∷ entries) zero version is =
    let success = same_Some (answer_to is_invalid history entry) (Success version) is
    in (
      entry,
      refl,
      committed-kept is_invalid (history_with history entry (answer_to is_invalid history entry)) entries version entry
          (stored_at history entry version (answer_to is_invalid history entry) success (answer_to-next is_invalid history entry version success)),
    )
committed-stores is_invalid history (entry ∷ entries) (suc place) version is =
    committed-stores is_invalid (history_with history entry (answer_to is_invalid history entry)) entries place version is
