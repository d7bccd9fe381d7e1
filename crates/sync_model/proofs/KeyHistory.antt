-- A commit of entries that keep the profile's keys keeps them in the history.
use Rattle.std.proofs.Common.{◌≡◌, ℕ, ◌+◌, ◌≤◌, Bool, true, false, cond, ◌&&◌, List, [], ◌∷◌, length, Option, refl, sym, ap, ◌∙◌, subst, eqb, eq-eqb, bytes_eq, arith}
use Rattle.std.proofs.lemmas.Bool.{false≢true, eqb-true, cond-true, cond-false, cond_both, false_from_ne_true}
use Rattle.client_tags.specs.declared.Kind.{Kind}
use Rattle.client_tags.specs.declared.Kind.TheVariants.{Nigori, Preference, Password}
use Rattle.key_derivation.specs.declared.NigoriKey.{NigoriKey}
use Rattle.sync_values.specs.declared.value.Value.{Value}
use Rattle.sync_values.specs.declared.value.Value.TheVariants.{Absent}
use Rattle.sync_model.specs.declared.message.Answer.TheVariants.{Success, Conflict, Invalid, OverQuota}
use Rattle.sync_model.specs.declared.message.Content.{Content}
use Rattle.sync_model.specs.declared.message.Entry.{Entry}
use Rattle.sync_model.specs.declared.message.Key.{Key}
use Rattle.sync_model.specs.Values.{same_kind, same_key, keys_in}
use Rattle.sync_model.specs.Settings.{Setting, nigori_hash, names_of}
use Rattle.sync_model.specs.History.{last_version, is_over_quota, answer_to, history_with, committed}
use Rattle.sync_model.specs.Sending.{own_lock}
use Rattle.sync_model.specs.Laws.{lock_names, locks_of, newest_keys, AreLocksKept}
use Rattle.sync_model.specs.KeyFacts.{Each, HaveNames, names_in, profile_key, profile_value, profile_at, HistoryHasKeys, CarriesKeys, KeepsKeys}
use Rattle.sync_model.proofs.Histories.{same_key-self, last_version-le}
use Rattle.sync_model.proofs.KeyNames.{has_names-self, has_names-through, has_names-both}

-- a history goes on from another one: the newest keys have what they had, and each write stays
pub record GoesOn (setting : Setting) (old new : List (Entry Content)) : Type 0 where
  pub longer : length old ≤ length new
  pub newest : HaveNames setting (newest_keys new) (names_of setting (newest_keys old))
  pub same : (version : ℕ) → version ≤ length old → profile_at new version ≡ profile_at old version

-- a history goes on from itself
pub GoesOn-self : (setting : Setting) (history : List (Entry Content)) → GoesOn setting history history
GoesOn-self setting history = record {
  longer = omega arith;
  newest = has_names-self (names_of setting (newest_keys history));
  same = λ version within. refl;
}

GoesOn-through : (setting : Setting) (old middle new : List (Entry Content)) → GoesOn setting old middle → GoesOn setting middle new
    → GoesOn setting old new
GoesOn-through setting old middle new first then = record {
  longer = omega (arith, first.longer, then.longer);
  newest = has_names-through (names_of setting (newest_keys new)) (names_of setting (newest_keys middle)) (names_of setting (newest_keys old)) then.newest first.newest;
  same = λ version within. then.same version (omega (arith, within, first.longer)) ∙ first.same version within;
}

-- an entry that keeps the keys still does where the history goes on
KeepsKeys-later : (setting : Setting) (old new : List (Entry Content)) (entry : Entry Content) → GoesOn setting old new
    → KeepsKeys setting old entry → KeepsKeys setting new entry
KeepsKeys-later setting old new entry on keeps = record {
  of_profile = λ is. let carries = keeps.of_profile is in record {
    hash = carries.hash;
    lock = carries.lock;
    has_lock = carries.has_lock;
    known = omega (arith, carries.known, on.longer);
    has_base = subst (λ (value : Value). HaveNames setting (keys_in entry.content.value) (names_in setting value))
        (sym (on.same entry.version carries.known)) carries.has_base;
  };
  of_others = λ is. has_names-through (names_of setting (newest_keys new)) (names_of setting (newest_keys old)) (lock_names entry.content.lock)
      on.newest (keeps.of_others is);
}

-- so do several
pub EachKeepsKeys-later : (setting : Setting) (old new : List (Entry Content)) (entries : List (Entry Content)) → GoesOn setting old new
    → Each (KeepsKeys setting old) entries → Each (KeepsKeys setting new) entries
EachKeepsKeys-later setting old new [] on keeps = tt
EachKeepsKeys-later setting old new (entry ∷ entries) on keeps =
    (KeepsKeys-later setting old new entry on keeps.0, EachKeepsKeys-later setting old new entries on keeps.1)

-- a write leaves what an older version is
pub profile_at-kept : (write : Entry Content) (older : List (Entry Content)) (version : ℕ) → version ≤ length older
    → profile_at (write ∷ older) version ≡ profile_at older version
profile_at-kept write older version within =
    cond-false (eqb version (length older + 1)) (profile_value write) (profile_at older version)
    (false_from_ne_true _ (λ at. let place = eqb-true version (length older + 1) at in omega (arith, place, within)))

-- the newest write is at the version of the whole history
pub profile_at-newest : (write : Entry Content) (older : List (Entry Content)) → profile_at (write ∷ older) (length older + 1) ≡ profile_value write
profile_at-newest write older = cond-true _ _ _ (eq-eqb (length older + 1) (length older + 1) refl)

-- what holds of the newest write's value and of each older one holds of each
each_version : (P : Value → Type 0) (write : Entry Content) (older : List (Entry Content)) → P (profile_value write)
    → ((version : ℕ) → P (profile_at older version)) → (version : ℕ) → P (profile_at (write ∷ older) version)
each_version P write older first rest version =
    cond_both (eqb version (length older + 1)) (profile_value write) (profile_at older version) P (λ here. first) (λ there. rest version)

-- the keys that seal the writes of a history are in the newest write of the profile's keys
pub locks_in_newest : (setting : Setting) (history : List (Entry Content)) → AreLocksKept setting history
    → HaveNames setting (newest_keys history) (locks_of history)
locks_in_newest setting [] kept = refl
locks_in_newest setting (write ∷ older) kept = kept.0

-- the newest keys after a write of the profile's keys, and after another one
newest_of_profile : (write : Entry Content) (older : List (Entry Content)) → same_kind write.key.kind Nigori ≡ true
    → newest_keys (write ∷ older) ≡ keys_in write.content.value
newest_of_profile write older is = cond-true _ _ _ is

newest_of_others : (write : Entry Content) (older : List (Entry Content)) → same_kind write.key.kind Nigori ≡ false
    → newest_keys (write ∷ older) ≡ newest_keys older
newest_of_others write older is = cond-false _ _ _ is

-- a type that is that of the profile's keys
is_Nigori : (kind : Kind) → same_kind kind Nigori ≡ true → kind ≡ Nigori
is_Nigori Nigori is = refl
is_Nigori Preference is = absurd (false≢true is)
is_Nigori Password is = absurd (false≢true is)

-- the key of the one entity that has a profile's keys
key_of_profile : (setting : Setting) (key : Key) → same_kind key.kind Nigori ≡ true → key.hash ≡ nigori_hash setting → key ≡ profile_key setting
key_of_profile setting key kind hash =
    ap (λ (of : Kind). record { kind = of; hash = key.hash }) (is_Nigori key.kind kind) ∙ ap (λ (of : List ℕ). record { kind = Nigori; hash = of }) hash

-- a write of another type is not of that entity
not_profile : (setting : Setting) (key : Key) → same_kind key.kind Nigori ≡ false → same_key key (profile_key setting) ≡ false
not_profile setting key is = ap (λ (b : Bool). b && bytes_eq key.hash (nigori_hash setting)) is

-- a write of another type keeps the fact
others-HistoryHasKeys : (setting : Setting) (write : Entry Content) (older : List (Entry Content)) → HistoryHasKeys setting older
    → same_kind write.key.kind Nigori ≡ false → HaveNames setting (newest_keys older) (lock_names write.content.lock)
    → HistoryHasKeys setting (write ∷ older)
others-HistoryHasKeys setting write older before is sealed =
    let same : newest_keys (write ∷ older) ≡ newest_keys older = newest_of_others write older is
    in let value : profile_value write ≡ Absent = cond-false _ _ _ is
    in let last : last_version (write ∷ older) (profile_key setting) ≡ last_version older (profile_key setting)
    = cond-false _ _ _ (not_profile setting write.key is)
    in record {
      entities = (λ of. absurd (false≢true (sym is ∙ of)), before.entities);
      newest = same ∙ before.newest ∙ ap keys_in (sym (profile_at-kept write older (last_version older (profile_key setting)) (last_version-le older (profile_key setting))))
          ∙ ap (λ (version : ℕ). keys_in (profile_at (write ∷ older) version)) (sym last);
      locks = (
        subst (λ (keys : List NigoriKey). HaveNames setting keys (locks_of (write ∷ older))) (sym same)
            (has_names-both (names_of setting (newest_keys older)) (lock_names write.content.lock) (locks_of older) sealed (locks_in_newest setting older before.locks)),
        before.locks,
      );
      grows = subst (λ (keys : List NigoriKey). (version : ℕ) → HaveNames setting keys (names_in setting (profile_at (write ∷ older) version))) (sym same)
          (each_version (λ (held : Value). HaveNames setting (newest_keys older) (names_in setting held)) write older
          (subst (λ (held : Value). HaveNames setting (newest_keys older) (names_in setting held)) (sym value) refl) before.grows);
      own_locks = each_version (λ (held : Value). HaveNames setting (keys_in held) (lock_names (own_lock held))) write older
          (subst (λ (held : Value). HaveNames setting (keys_in held) (lock_names (own_lock held))) (sym value) refl) before.own_locks;
    }

-- all newest keys are in a write of the profile's keys that is stored
carries_newest : (setting : Setting) (write : Entry Content) (older : List (Entry Content)) → HistoryHasKeys setting older
    → same_kind write.key.kind Nigori ≡ true → CarriesKeys setting older write → write.version ≡ last_version older write.key
    → HaveNames setting (keys_in write.content.value) (names_of setting (newest_keys older))
carries_newest setting write older before is carries based =
    let key = key_of_profile setting write.key is carries.hash
    in let version : write.version ≡ last_version older (profile_key setting) = based ∙ ap (last_version older) key
    in subst (λ (keys : List NigoriKey). HaveNames setting (keys_in write.content.value) (names_of setting keys))
    (ap (λ (place : ℕ). keys_in (profile_at older place)) version ∙ sym before.newest) carries.has_base

-- a write of the profile's keys keeps the fact
profile-HistoryHasKeys : (setting : Setting) (write : Entry Content) (older : List (Entry Content)) → HistoryHasKeys setting older
    → same_kind write.key.kind Nigori ≡ true → CarriesKeys setting older write → write.version ≡ last_version older write.key
    → HistoryHasKeys setting (write ∷ older)
profile-HistoryHasKeys setting write older before is carries based =
    let all = carries_newest setting write older before is carries based
    in let same : newest_keys (write ∷ older) ≡ keys_in write.content.value = newest_of_profile write older is
    in let value : profile_value write ≡ write.content.value = cond-true _ _ _ is
    in let key = key_of_profile setting write.key is carries.hash
    in let last : last_version (write ∷ older) (profile_key setting) ≡ length older + 1
    = cond-true _ _ _ (ap (λ (of : Key). same_key of (profile_key setting)) key ∙ same_key-self (profile_key setting))
    in record {
      entities = (λ of. carries.hash, before.entities);
      newest = same ∙ ap keys_in (sym value) ∙ ap keys_in (sym (profile_at-newest write older))
          ∙ ap (λ (version : ℕ). keys_in (profile_at (write ∷ older) version)) (sym last);
      locks = (
        subst (λ (keys : List NigoriKey). HaveNames setting keys (locks_of (write ∷ older))) (sym same)
            (has_names-both (names_in setting write.content.value) (lock_names write.content.lock) (locks_of older)
            (subst (λ (lock : Option (List ℕ)). HaveNames setting (keys_in write.content.value) (lock_names lock)) (sym carries.lock) carries.has_lock)
            (has_names-through (names_in setting write.content.value) (names_of setting (newest_keys older)) (locks_of older) all (locks_in_newest setting older before.locks))),
        before.locks,
      );
      grows = subst (λ (keys : List NigoriKey). (version : ℕ) → HaveNames setting keys (names_in setting (profile_at (write ∷ older) version))) (sym same)
          (each_version (λ (held : Value). HaveNames setting (keys_in write.content.value) (names_in setting held)) write older
          (subst (λ (held : Value). HaveNames setting (keys_in write.content.value) (names_in setting held)) (sym value) (has_names-self (names_in setting write.content.value)))
          (λ version. has_names-through (names_in setting write.content.value) (names_of setting (newest_keys older)) (names_in setting (profile_at older version)) all (before.grows version)));
      own_locks = each_version (λ (held : Value). HaveNames setting (keys_in held) (lock_names (own_lock held))) write older
          (subst (λ (held : Value). HaveNames setting (keys_in held) (lock_names (own_lock held))) (sym value) carries.has_lock) before.own_locks;
    }

write_by_kind : (setting : Setting) (write : Entry Content) (older : List (Entry Content)) → HistoryHasKeys setting older → KeepsKeys setting older write
    → write.version ≡ last_version older write.key → (of : Bool) → same_kind write.key.kind Nigori ≡ of
    → HistoryHasKeys setting (write ∷ older) × HaveNames setting (newest_keys (write ∷ older)) (names_of setting (newest_keys older))
write_by_kind setting write older before keeps based true is = (
  profile-HistoryHasKeys setting write older before is (keeps.of_profile is) based,
  subst (λ (keys : List NigoriKey). HaveNames setting keys (names_of setting (newest_keys older))) (sym (newest_of_profile write older is))
      (carries_newest setting write older before is (keeps.of_profile is) based),
)
write_by_kind setting write older before keeps based false is = (
  others-HistoryHasKeys setting write older before is (keeps.of_others is),
  subst (λ (keys : List NigoriKey). HaveNames setting keys (names_of setting (newest_keys older))) (sym (newest_of_others write older is))
      (has_names-self (names_of setting (newest_keys older))),
)

-- a history that keeps the keys, and goes on from another one
pub record GoesOnWithKeys (setting : Setting) (old new : List (Entry Content)) : Type 0 where
  pub has_keys : HistoryHasKeys setting new
  pub goes_on : GoesOn setting old new

-- a write of an entry that keeps the keys
write-GoesOnWithKeys : (setting : Setting) (write : Entry Content) (older : List (Entry Content)) → HistoryHasKeys setting older
    → KeepsKeys setting older write → write.version ≡ last_version older write.key → GoesOnWithKeys setting older (write ∷ older)
write-GoesOnWithKeys setting write older before keeps based =
    let both = write_by_kind setting write older before keeps based (same_kind write.key.kind Nigori) refl
    in record {
      has_keys = both.0;
      goes_on = record { longer = omega arith; newest = both.1; same = profile_at-kept write older };
    }

-- a history that keeps the keys goes on from itself
pub GoesOnWithKeys-self : (setting : Setting) (history : List (Entry Content)) → HistoryHasKeys setting history → GoesOnWithKeys setting history history
GoesOnWithKeys-self setting history before = record { has_keys = before; goes_on = GoesOn-self setting history }

by_tests : (setting : Setting) (history : List (Entry Content)) (entry : Entry Content) (invalid matches over : Bool) (version : ℕ)
    → eqb entry.version (last_version history entry.key) ≡ matches → HistoryHasKeys setting history → KeepsKeys setting history entry
    → GoesOnWithKeys setting history (history_with history entry (cond invalid Invalid (cond matches (cond over OverQuota (Success version)) Conflict)))
by_tests setting history entry true matches over version is before keeps = GoesOnWithKeys-self setting history before
by_tests setting history entry false true true version is before keeps = GoesOnWithKeys-self setting history before
by_tests setting history entry false true false version is before keeps = write-GoesOnWithKeys setting entry history before keeps (eqb-true _ _ is)
by_tests setting history entry false false over version is before keeps = GoesOnWithKeys-self setting history before

-- an entry that keeps the keys leaves them kept
entry-GoesOnWithKeys : (setting : Setting) (is_invalid : Entry Content → Bool) (history : List (Entry Content)) (entry : Entry Content)
    → HistoryHasKeys setting history → KeepsKeys setting history entry
    → GoesOnWithKeys setting history (history_with history entry (answer_to is_invalid history entry))
unfolding answer_to
entry-GoesOnWithKeys setting is_invalid history entry before keeps =
    by_tests setting history entry (is_invalid entry) (eqb entry.version (last_version history entry.key)) (is_over_quota history entry) (length history + 1)
    refl before keeps

-- so does a commit
pub committed-GoesOnWithKeys : (setting : Setting) (is_invalid : Entry Content → Bool) (history entries : List (Entry Content))
    → HistoryHasKeys setting history → Each (KeepsKeys setting history) entries → GoesOnWithKeys setting history (committed is_invalid history entries)
unfolding committed
committed-GoesOnWithKeys setting is_invalid history [] before keeps = GoesOnWithKeys-self setting history before
committed-GoesOnWithKeys setting is_invalid history (entry ∷ entries) before keeps =
    let next : List (Entry Content) = history_with history entry (answer_to is_invalid history entry)
    in let first : GoesOnWithKeys setting history next = entry-GoesOnWithKeys setting is_invalid history entry before keeps.0
    in let rest = committed-GoesOnWithKeys setting is_invalid next entries first.has_keys (EachKeepsKeys-later setting history next entries first.goes_on keeps.1)
    in record {
      has_keys = rest.has_keys;
      goes_on = GoesOn-through setting history next (committed is_invalid next entries) first.goes_on rest.goes_on;
    }
