-- What a store is after a write, and what it answers to an entry.
use Rattle.std.proofs.Common.{◌≡◌, ℕ, ◌+◌, Bool, true, false, cond, List, [], ◌∷◌, ◌++◌, length, map, Option, Some, refl, sym, ap, ◌∙◌, eqb}
use Rattle.std.proofs.lemmas.List.{reverse-append}
use Rattle.std.specs.Prelude.{◌&&◌, ◌==◌, ◌||◌, nat_le, if◌then◌else◌, unwrap_or, reverse}
use Rattle.sync_specifics.specs.declared.specifics.Specifics.{Specifics}
use Rattle.sync_model.specs.declared.message.Answer.TheVariants.{Success, Conflict, OverQuota}
use Rattle.sync_model.specs.declared.message.Entry.{Entry}
use Rattle.sync_model.specs.History.{MAX_KEYS, LAST_VERSION, last_version, key_count, is_over_quota, answer_to}
use Rattle.loopback_server.specs.declared.write.EntityKey.{EntityKey}
use Rattle.loopback_server.specs.declared.write.Write.{Write}
use Rattle.replay_messages.specs.Entries.{is_invalid}
use Rattle.loopback_server.specs.Indexes.{key_of, is_key, indexed, HasVersions}
use Rattle.loopback_server.specs.Stores.{entry_of, history_in}

-- a write at the end of the writes is the newest one
pub newest : (writes written : List Write) (write : Write) → written ≡ writes ++ write ∷ [] → history_in written ≡ entry_of write ∷ history_in writes
newest writes written write is = ap (λ all. map entry_of (reverse all)) is ∙ ap (map entry_of) (reverse-append writes (write ∷ []))

by_same : (found : Option ℕ) (last version : ℕ) (same : Bool) → unwrap_or found 0 ≡ last
    → unwrap_or (cond same (Some version) found) 0 ≡ cond same version last
by_same found last version true has = refl
by_same found last version false has = has

-- an index in which the next version was set at the key of a write has the versions with that write
pub stored_versions : (old new : List (EntityKey × ℕ)) (history : List (Entry (Option Specifics))) (write : Write) (version : ℕ) → HasVersions old history
    → version ≡ length history → ((key : EntityKey) → indexed new key ≡ cond (is_key write.key key) (Some (version + 1)) (indexed old key))
    → HasVersions new (entry_of write ∷ history)
stored_versions old new history write version has is_version set key =
    ap (λ found. unwrap_or found 0) (set key)
    ∙ by_same (indexed old key) (last_version history (key_of key)) (version + 1) (is_key write.key key) (has key)
    ∙ ap (λ (n : ℕ). cond (is_key write.key key) (n + 1) (last_version history (key_of key))) is_version

-- the count of the keys after a write
pub stored_keys : (history : List (Entry (Option Specifics))) (entry : Entry (Option Specifics)) (keys last : ℕ) → keys ≡ key_count history → last ≡ last_version history entry.key
    → (if last == 0 then keys + 1 else keys) ≡ key_count (entry ∷ history)
stored_keys history entry keys last is_keys is_last = rw (is_last, is_keys) refl

-- the answer to a write, from what the index and the counts say
answer_is : (history : List (Entry (Option Specifics))) (write : Write) (last : ℕ) (same over : Bool) → last ≡ last_version history (key_of write.key)
    → eqb write.base last ≡ same → is_over_quota history (entry_of write) ≡ over
    → answer_to is_invalid history (entry_of write) ≡ cond same (cond over OverQuota (Success (length history + 1))) Conflict
unfolding answer_to
answer_is history write last same over is_last is_same is_over = rw (← is_last, is_same, is_over) refl

-- the quota test, from the count that the store keeps
pub over_is : (history : List (Entry (Option Specifics))) (write : Write) (keys : ℕ) (over : Bool) → keys ≡ key_count history
    → over ≡ ((write.base == 0 && nat_le MAX_KEYS keys) || nat_le LAST_VERSION (length history)) → is_over_quota history (entry_of write) ≡ over
over_is history write keys over is_keys is = rw (is, is_keys) refl

pub conflict_answer : (history : List (Entry (Option Specifics))) (write : Write) (last : ℕ) → last ≡ last_version history (key_of write.key) → eqb write.base last ≡ false
    → Conflict ≡ answer_to is_invalid history (entry_of write)
conflict_answer history write last is_last other = sym (answer_is history write last false (is_over_quota history (entry_of write)) is_last other refl)

pub quota_answer : (history : List (Entry (Option Specifics))) (write : Write) (last : ℕ) → last ≡ last_version history (key_of write.key) → eqb write.base last ≡ true
    → is_over_quota history (entry_of write) ≡ true → OverQuota ≡ answer_to is_invalid history (entry_of write)
quota_answer history write last is_last same over = sym (answer_is history write last true true is_last same over)

pub success_answer : (history : List (Entry (Option Specifics))) (write : Write) (last version : ℕ) → last ≡ last_version history (key_of write.key) → eqb write.base last ≡ true
    → is_over_quota history (entry_of write) ≡ false → version ≡ length history → Success (version + 1) ≡ answer_to is_invalid history (entry_of write)
success_answer history write last version is_last same over is_version =
    ap (λ n. Success (n + 1)) is_version ∙ sym (answer_is history write last true false is_last same over)
