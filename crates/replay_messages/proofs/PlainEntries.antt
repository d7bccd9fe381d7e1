-- The entries of a server that is sent plain ones.
use Rattle.std.proofs.Common.{◌≡◌, ℕ, ◌<◌, ◌≤◌, ◌^◌, arith, Bool, true, false, List, [], length, refl, ap}
use Rattle.std.specs.List.{AllByRecursion}
use Rattle.std.specs.Prelude.{if◌then◌else◌}
use Rattle.message_fields.specs.declared.field.Known.{Known}
use Rattle.message_fields.specs.Unknown.{IsCanonicalExtra}
use Rattle.sync_model.specs.declared.message.Call.{Call}
use Rattle.sync_model.specs.declared.message.Call.TheVariants as calls
use Rattle.sync_model.specs.declared.message.Content.{Content}
use Rattle.sync_model.specs.declared.message.Entry.{Entry}
use Rattle.sync_model.specs.declared.message.Marker.{Marker}
use Rattle.sync_model.specs.declared.message.Verdict.{Verdict}
use Rattle.sync_model.specs.declared.message.Verdict.TheVariants.{Refused}
use Rattle.sync_model.specs.Servers.{as_given, wanted_writes, MAX_UPDATES, verdict_on, history_after, is_foreign, NOT_MY_BIRTHDAY, reply_to, history_served}
use Rattle.sync_model.specs.Worlds.{STORE_BIRTHDAY, is_invalid_entry}
use Rattle.sync_model.proofs.WantedWrites.{all_take}
use Rattle.sync_model.proofs.EachEntry.{HoldsOfCall, after_holds, wanted_holds}
use Rattle.replay_messages.specs.Forms.{IsPlain, IsPlainCall, IsPlainVerdict}
use Rattle.replay_messages.specs.Sealed.{plain_specifics, specifics_of}
use Rattle.replay_messages.specs.Laws.{HistoriesStayPlain, RepliesArePlain}

-- what nothing seals is said plainly, whatever the seed is
pub said_plainly : (seed : ℕ) (entry : Entry Content) → IsPlain entry
    → specifics_of seed entry.key.kind entry.content.value entry.content.draw ≡ plain_specifics entry.key.kind entry.content.value
said_plainly seed entry plain = ap (specifics_of seed entry.key.kind entry.content.value) plain.undrawn

call_is_plain : (call : Call Content) → IsPlainCall call → HoldsOfCall IsPlain call
call_is_plain (calls.Commit entries) plain = plain
call_is_plain (calls.Updates marks) plain = tt

unless_foreign : (foreign : Bool) (history after : List (Entry Content)) → AllByRecursion IsPlain history → AllByRecursion IsPlain after
    → AllByRecursion IsPlain (if foreign then history else after)
unless_foreign true history after all also = all
unless_foreign false history after all also = also

pub histories_stay_plain : HistoriesStayPlain
unfolding history_served
histories_stay_plain history request all plain =
    unless_foreign (is_foreign STORE_BIRTHDAY request.birthday) history (history_after is_invalid_entry history request.call)
    all (after_holds IsPlain is_invalid_entry history request.call all (call_is_plain request.call plain))

-- a write as it is given is plain
given_is_plain : (last version : ℕ) (write : Entry Content) → last < 2 ^ 63 → version ≤ last → IsPlain write → IsPlain (as_given version write)
given_is_plain last version write short within plain =
    record { kind = plain.kind; hash = plain.hash; value = plain.value; unlocked = plain.unlocked; undrawn = plain.undrawn; version = omega (arith, short, within) }

pub wanted_are_plain : (marks : List Marker) (history : List (Entry Content)) → AllByRecursion IsPlain history → length history < 2 ^ 63
    → AllByRecursion IsPlain (wanted_writes marks history history)
wanted_are_plain marks history all short =
    wanted_holds IsPlain IsPlain (length history) (λ version write within plain. given_is_plain (length history) version write short within plain)
    marks history history all (omega arith)

verdict_is_plain : (history : List (Entry Content)) (call : Call Content) → AllByRecursion IsPlain history → length history < 2 ^ 63
    → IsPlainVerdict (verdict_on is_invalid_entry history call)
verdict_is_plain history (calls.Commit entries) all short = tt
verdict_is_plain history (calls.Updates marks) all short =
    all_take IsPlain MAX_UPDATES (wanted_writes marks history history) (wanted_are_plain marks history all short)

verdict_unless_foreign : (foreign : Bool) (verdict : Verdict Content) → IsPlainVerdict verdict
    → IsPlainVerdict (if foreign then Refused NOT_MY_BIRTHDAY else verdict)
verdict_unless_foreign true verdict plain = tt
verdict_unless_foreign false verdict plain = plain

pub replies_are_plain : RepliesArePlain
unfolding reply_to
replies_are_plain history request all short =
    verdict_unless_foreign (is_foreign STORE_BIRTHDAY request.birthday) (verdict_on is_invalid_entry history request.call)
    (verdict_is_plain history request.call all short)
