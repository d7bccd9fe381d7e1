-- What the model's server says to plain requests is a reply to them.
use Rattle.std.proofs.Common.{◌≡◌, ℕ, zero, suc, ◌+◌, ◌≤◌, arith, Bool, true, false, cond, List, [], ◌∷◌, length, take, refl}
use Rattle.std.proofs.lemmas.Bool.{leb-false}
use Rattle.std.specs.Prelude.{◌||◌, ◌==◌, ◌&&◌, nat_le}
use Rattle.std.specs.List.{AllByRecursion}
use Rattle.sync_model.specs.declared.message.Answer.TheVariants.{Success, Conflict, Invalid, OverQuota}
use Rattle.sync_model.specs.declared.message.Call.{Call}
use Rattle.sync_model.specs.declared.message.Call.TheVariants as calls
use Rattle.sync_model.specs.declared.message.Content.{Content}
use Rattle.sync_model.specs.declared.message.Entry.{Entry}
use Rattle.sync_model.specs.declared.message.Marker.{Marker}
use Rattle.sync_model.specs.declared.message.Verdict.TheVariants as verdicts
use Rattle.sync_model.specs.History.{MAX_KEYS, key_count, last_version, answer_to, history_with, answers_to}
use Rattle.sync_model.specs.Servers.{is_foreign, is_wanted, as_given, wanted_writes, MAX_UPDATES, NOT_MY_BIRTHDAY, verdict_on, reply_to}
use Rattle.sync_model.specs.Worlds.{STORE_BIRTHDAY, is_invalid_entry}
use Rattle.type_processor.specs.Fits.{LAST_VERSION}
use Rattle.replay_messages.specs.Forms.{IsPlain}
use Rattle.replay_client.specs.Laws.{RepliesAreTaken}
use Rattle.replay_client.specs.Replies.{IsVersioned, IsPlainWrite, IsReplyTo}
use Rattle.replay_client.proofs.HeldLemmas.{all_append}

few_answers : (history entries : List (Entry Content)) → length (answers_to is_invalid_entry history entries) ≤ length entries
unfolding answers_to
few_answers history [] = omega arith
few_answers history (entry ∷ entries) = omega (arith, few_answers (history_with history entry (answer_to is_invalid_entry history entry)) entries)

-- a write is stored only where a version is left
versioned_if : (n : ℕ) (invalid based full last : Bool) → nat_le LAST_VERSION n ≡ last
    → IsVersioned (cond invalid Invalid (cond based (cond (full || last) OverQuota (Success (n + 1))) Conflict))
versioned_if n true based full last is = tt
versioned_if n false false full last is = tt
versioned_if n false true true last is = tt
versioned_if n false true false true is = tt
versioned_if n false true false false is = omega (arith, leb-false LAST_VERSION n is)

versioned : (history : List (Entry Content)) (entry : Entry Content) → IsVersioned (answer_to is_invalid_entry history entry)
unfolding answer_to
versioned history entry =
    versioned_if (length history) (is_invalid_entry entry) (entry.version == last_version history entry.key) (entry.version == 0 && nat_le MAX_KEYS (key_count history))
    (nat_le LAST_VERSION (length history)) refl

all_versioned : (history entries : List (Entry Content)) → AllByRecursion IsVersioned (answers_to is_invalid_entry history entries)
unfolding answers_to
all_versioned history [] = tt
all_versioned history (entry ∷ entries) = (versioned history entry, all_versioned (history_with history entry (answer_to is_invalid_entry history entry)) entries)

-- a plain write as a reply gives it
given : (write : Entry Content) (version : ℕ) (wanted : Bool) → IsPlain write → version ≤ LAST_VERSION → AllByRecursion IsPlainWrite (cond wanted (as_given version write ∷ []) [])
given write version true plain most =
    (record { plain = record { kind = plain.kind; hash = plain.hash; value = plain.value; unlocked = plain.unlocked; undrawn = plain.undrawn; version = omega (arith, most) }; version = most }, tt)
given write version false plain most = tt

all_given : (marks : List Marker) (whole history : List (Entry Content)) → AllByRecursion IsPlain history → length history ≤ LAST_VERSION → AllByRecursion IsPlainWrite (wanted_writes marks whole history)
unfolding wanted_writes
all_given marks whole [] plain few = tt
all_given marks whole (write ∷ older) plain few =
    all_append IsPlainWrite (wanted_writes marks whole older) (cond (is_wanted marks whole (length older + 1) write) (as_given (length older + 1) write ∷ []) [])
    (all_given marks whole older plain.1 (omega (arith, few))) (given write (length older + 1) (is_wanted marks whole (length older + 1) write) plain.0 (omega (arith, few)))

take_all : {A : Type 0} (P : A → Type 0) (n : ℕ) (xs : List A) → AllByRecursion P xs → AllByRecursion P (take n xs)
take_all P zero xs all = tt
take_all P (suc n) [] all = tt
take_all P (suc n) (x ∷ xs) all = (all.0, take_all P n xs all.1)

accepted : (history : List (Entry Content)) (call : Call Content) → AllByRecursion IsPlain history → length history ≤ LAST_VERSION → IsReplyTo call (verdict_on is_invalid_entry history call)
accepted history (calls.Commit entries) plain few = (few_answers history entries, all_versioned history entries)
accepted history (calls.Updates marks) plain few = take_all IsPlainWrite MAX_UPDATES (wanted_writes marks history history) (all_given marks history history plain few)

either : (history : List (Entry Content)) (call : Call Content) (foreign : Bool) → AllByRecursion IsPlain history → length history ≤ LAST_VERSION
    → IsReplyTo call (cond foreign (verdicts.Refused NOT_MY_BIRTHDAY) (verdict_on is_invalid_entry history call))
either history call true plain few = tt
either history call false plain few = accepted history call plain few

pub replies_are_taken : RepliesAreTaken
unfolding reply_to
replies_are_taken history request plain few = either history request.call (is_foreign STORE_BIRTHDAY request.birthday) plain (omega (arith, few))
