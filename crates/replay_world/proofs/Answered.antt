-- What a server of plain entries says is a reply to what it is asked.
use Rattle.std.proofs.Common.{◌≡◌, ℕ, suc, ◌+◌, ◌<◌, ◌≤◌, ◌^◌, arith, Bool, true, false, cond, List, [], ◌∷◌, length, refl, ap, eqb}
use Rattle.std.proofs.lemmas.Bool.{leb-false, or_parts}
use Rattle.std.specs.List.{AllByRecursion}
use Rattle.sync_model.specs.declared.message.Answer.TheVariants.{Success, Conflict, Invalid, OverQuota}
use Rattle.sync_model.specs.declared.message.Call.{Call}
use Rattle.sync_model.specs.declared.message.Call.TheVariants.{Commit, Updates}
use Rattle.sync_model.specs.declared.message.Content.{Content}
use Rattle.sync_model.specs.declared.message.Entry.{Entry}
use Rattle.sync_model.specs.declared.message.Marker.{Marker}
use Rattle.sync_model.specs.declared.message.Request.{Request}
use Rattle.sync_model.specs.declared.message.Verdict.TheVariants.{Refused}
use Rattle.sync_model.specs.History.{LAST_VERSION, last_version, is_over_quota, answer_to, history_with, answers_to}
use Rattle.sync_model.specs.Servers.{is_foreign, is_wanted, as_given, wanted_writes, verdict_on, MAX_UPDATES, reply_to, NOT_MY_BIRTHDAY}
use Rattle.sync_model.specs.Worlds.{STORE_BIRTHDAY, is_invalid_entry}
use Rattle.sync_model.proofs.TrueAcks.{all_append}
use Rattle.sync_model.proofs.WantedWrites.{all_take}
use Rattle.replay_messages.specs.Forms.{IsPlain}
use Rattle.replay_client.specs.Replies.{IsVersioned, IsPlainWrite, IsReplyTo}

answers_long : (history entries : List (Entry Content)) → length (answers_to is_invalid_entry history entries) ≡ length entries
unfolding answers_to
answers_long history [] = refl
answers_long history (entry ∷ entries) = ap suc (answers_long (history_with history entry (answer_to is_invalid_entry history entry)) entries)

by_tests : (history : List (Entry Content)) (invalid matches over : Bool) → (over ≡ false → length history + 1 ≤ LAST_VERSION)
    → IsVersioned (cond invalid Invalid (cond matches (cond over OverQuota (Success (length history + 1))) Conflict))
by_tests history true matches over within = tt
by_tests history false true true within = tt
by_tests history false true false within = within refl
by_tests history false false over within = tt

answer_versioned : (history : List (Entry Content)) (entry : Entry Content) → IsVersioned (answer_to is_invalid_entry history entry)
unfolding answer_to
answer_versioned history entry =
    by_tests history (is_invalid_entry entry) (eqb entry.version (last_version history entry.key)) (is_over_quota history entry)
    (λ under. omega (arith, leb-false LAST_VERSION (length history) (or_parts _ _ under).1))

answers_versioned : (history entries : List (Entry Content)) → AllByRecursion IsVersioned (answers_to is_invalid_entry history entries)
unfolding answers_to
answers_versioned history [] = tt
answers_versioned history (entry ∷ entries) =
    (answer_versioned history entry, answers_versioned (history_with history entry (answer_to is_invalid_entry history entry)) entries)

given : (write : Entry Content) (version : ℕ) → IsPlain write → version ≤ LAST_VERSION → IsPlainWrite (as_given version write)
given write version plain within = record {
  plain = record { kind = plain.kind; hash = plain.hash; value = plain.value; unlocked = plain.unlocked; undrawn = plain.undrawn; version = omega (arith, within) };
  version = within;
}

if_wanted : (write : Entry Content) (version : ℕ) (wanted : Bool) → IsPlainWrite (as_given version write)
    → AllByRecursion IsPlainWrite (cond wanted (as_given version write ∷ []) [])
if_wanted write version true is = (is, tt)
if_wanted write version false is = tt

wanted_plain : (marks : List Marker) (whole history : List (Entry Content)) → AllByRecursion IsPlain history → length history ≤ LAST_VERSION
    → AllByRecursion IsPlainWrite (wanted_writes marks whole history)
unfolding wanted_writes
wanted_plain marks whole [] plain within = tt
wanted_plain marks whole (write ∷ older) plain within =
    all_append IsPlainWrite (wanted_writes marks whole older) (cond (is_wanted marks whole (length older + 1) write) (as_given (length older + 1) write ∷ []) [])
    (wanted_plain marks whole older plain.1 (omega (arith, within)))
    (if_wanted write (length older + 1) (is_wanted marks whole (length older + 1) write) (given write (length older + 1) plain.0 (omega (arith, within))))

-- what is said to a call that is accepted
verdict_answers : (history : List (Entry Content)) (call : Call Content) → AllByRecursion IsPlain history → length history ≤ LAST_VERSION
    → IsReplyTo call (verdict_on is_invalid_entry history call)
verdict_answers history (Commit entries) plain within = (omega (arith, answers_long history entries), answers_versioned history entries)
verdict_answers history (Updates marks) plain within =
    all_take IsPlainWrite MAX_UPDATES (wanted_writes marks history history) (wanted_plain marks history history plain within)

by_birthday : (history : List (Entry Content)) (call : Call Content) (foreign : Bool) → AllByRecursion IsPlain history → length history ≤ LAST_VERSION
    → IsReplyTo call (cond foreign (Refused NOT_MY_BIRTHDAY) (verdict_on is_invalid_entry history call))
by_birthday history call true plain within = tt
by_birthday history call false plain within = verdict_answers history call plain within

-- what is said to a request is a reply to it
pub replies_answer : (history : List (Entry Content)) (request : Request Content) → AllByRecursion IsPlain history → length history < 2 ^ 63
    → IsReplyTo request.call (reply_to is_invalid_entry STORE_BIRTHDAY history request).verdict
unfolding reply_to
replies_answer history request plain within =
    by_birthday history request.call (is_foreign STORE_BIRTHDAY request.birthday) plain (omega (arith, within))
