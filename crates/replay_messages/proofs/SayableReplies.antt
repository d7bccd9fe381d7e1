-- Bytes can say the replies of a server of plain entries, and a client's requests.
use Rattle.std.proofs.Common.{◌≡◌, ℕ, ◌+◌, ◌-◌, ◌<◌, ◌≤◌, ◌^◌, arith, Bool, true, false, List, [], ◌∷◌, ◌++◌, length, take, map, Option, Some, None, refl, sym, subst}
use Rattle.std.proofs.lemmas.List.{length-append}
use Rattle.std.proofs.Math.Facts.{sfits_to_z}
use Rattle.std.specs.Int.{w64, cast_signed}
use Rattle.std.specs.List.{AllByRecursion}
use Rattle.std.specs.Option.{option_or}
use Rattle.std.specs.Prelude.{◌==◌, FitsSigned, max, if◌then◌else◌}
use Rattle.client_tags.specs.declared.Kind.{Kind}
use Rattle.client_tags.specs.declared.Kind.TheVariants.{Nigori, Preference, Password}
use Rattle.sync_values.specs.declared.value.Value.{Value}
use Rattle.sync_values.specs.declared.value.Value.TheVariants as values
use Rattle.sync_specifics.specs.declared.specifics.Specifics.{Specifics}
use Rattle.sync_specifics.specs.Extras.{HasCanonicalExtra}
use Rattle.sync_messages.specs.Laws.{IsEntity, IsMarker, IsAnswer, IsSayableRequest, IsSayableReply}
use Rattle.sync_model.specs.declared.message.Answer.{Answer}
use Rattle.sync_model.specs.declared.message.Answer.TheVariants.{Success, Conflict, Invalid, OverQuota}
use Rattle.sync_model.specs.declared.message.Call.{Call}
use Rattle.sync_model.specs.declared.message.Call.TheVariants as calls
use Rattle.sync_model.specs.declared.message.Content.{Content}
use Rattle.sync_model.specs.declared.message.Entry.{Entry}
use Rattle.sync_model.specs.declared.message.Marker.{Marker}
use Rattle.sync_model.specs.declared.message.Verdict.{Verdict}
use Rattle.sync_model.specs.declared.message.Verdict.TheVariants.{Updated, Refused}
use Rattle.sync_model.specs.History.{last_version, is_over_quota, answer_to, answers_to, history_with}
use Rattle.sync_model.specs.Servers.{mark_of, is_wanted, as_given, wanted_writes, MAX_UPDATES, last_given, new_mark, new_marker, new_markers, updates_of, verdict_on, is_foreign, NOT_MY_BIRTHDAY, reply_to}
use Rattle.sync_model.specs.Values.{same_kind}
use Rattle.sync_model.specs.Worlds.{STORE_BIRTHDAY, is_invalid_entry}
use Rattle.replay_messages.specs.Replies.{told_answers, told_entity, told_marker, told_verdict, entries_of}
use Rattle.replay_messages.specs.Forms.{form, IsPlain, IsPlainCall, IsPlainValue, call_formed, verdict_formed}
use Rattle.replay_messages.specs.Laws.{RepliesAreSayable}
use Rattle.replay_messages.specs.Sealed.{plain_specifics, specifics_of}
use Rattle.replay_messages.specs.Messages.{entity_of, call_told, reply_told}
use Rattle.sync_model.proofs.TrueAcks.{all_append}
use Rattle.sync_model.proofs.WantedWrites.{all_take}
use Rattle.sync_model.proofs.EachEntry.{all_mapped}
use Rattle.replay_messages.proofs.PlainEntries.{said_plainly, wanted_are_plain}

fits : (version : ℕ) → version < 2 ^ 64 → FitsSigned w64 (cast_signed w64 version)
fits version below = sfits_to_z {w = w64} {n = version} (omega (arith, below))

-- a client's request

-- what a plain value holds as specifics has a canonical extra
plain_canonical : (kind : Kind) (value : Value) → IsPlainValue value → HasCanonicalExtra (plain_specifics kind value)
plain_canonical kind values.Absent plain = tt
plain_canonical kind (values.Preference preference) plain = plain
plain_canonical kind (values.Password password) plain = tt
plain_canonical kind (values.Nigori nigori) plain = tt

-- what an entry that nothing seals holds as specifics has a canonical extra
held_canonical : (seed : ℕ) (entry : Entry Content) → IsPlain entry
    → HasCanonicalExtra (specifics_of seed entry.key.kind entry.content.value entry.content.draw)
held_canonical seed entry plain =
    subst HasCanonicalExtra (sym (said_plainly seed entry plain)) (plain_canonical entry.key.kind entry.content.value plain.value)

entry_sayable : (seed : ℕ) (entry : Entry Content) → IsPlain entry → IsEntity (entity_of seed entry)
entry_sayable seed entry plain = record {
  fits = record { version = fits entry.version plain.version; hash = plain.hash };
  extra = held_canonical seed entry plain;
}

entities_sayable : (seed : ℕ) (entries : List (Entry Content)) → AllByRecursion IsPlain entries → AllByRecursion IsEntity (map (entity_of seed) entries)
entities_sayable seed entries plain = all_mapped IsPlain IsEntity (entity_of seed) (entry_sayable seed) entries plain

pub markers_sayable : (marks : List Marker) → AllByRecursion (λ (marker : Marker). marker.mark < 2 ^ 64) marks → AllByRecursion IsMarker (map told_marker marks)
markers_sayable [] fit = tt
markers_sayable (marker ∷ marks) fit = (fit.0, markers_sayable marks fit.1)

pub call_sayable : (seed client : ℕ) (call : Call Content) → IsPlainCall call → IsSayableRequest (call_told seed client call)
call_sayable seed client (calls.Commit entries) plain = entities_sayable seed entries plain
call_sayable seed client (calls.Updates marks) plain = markers_sayable marks plain

-- the answers to a commit

-- a version that is given fits its type
abbrev HasFit : Answer → Type 0
HasFit (Success version) = version < 2 ^ 64
HasFit Conflict = Unit {0}
HasFit Invalid = Unit {0}
HasFit OverQuota = Unit {0}

answer_fits_by : (invalid based over : Bool) (count : ℕ) → (over ≡ false → count < 2 ^ 63 - 1)
    → HasFit (if invalid then Invalid else (if based then (if over then OverQuota else Success (count + 1)) else Conflict))
answer_fits_by true based over count short = tt
answer_fits_by false true true count short = tt
answer_fits_by false true false count short = omega (arith, short refl)
answer_fits_by false false over count short = tt

within_quota : (history : List (Entry Content)) (entry : Entry Content) → is_over_quota history entry ≡ false → length history < 2 ^ 63 - 1
within_quota history entry within = grind (arith, within)

answer_fits : (history : List (Entry Content)) (entry : Entry Content) → HasFit (answer_to is_invalid_entry history entry)
unfolding answer_to
answer_fits history entry =
    answer_fits_by (is_invalid_entry entry) (entry.version == last_version history entry.key) (is_over_quota history entry) (length history)
    (within_quota history entry)

answers_fit : (history entries : List (Entry Content)) → AllByRecursion HasFit (answers_to is_invalid_entry history entries)
unfolding answers_to
answers_fit history [] = tt
answers_fit history (entry ∷ entries) =
    (answer_fits history entry, answers_fit (history_with history entry (answer_to is_invalid_entry history entry)) entries)

answer_sayable : (entry : Entry (Option Specifics)) (answer : Answer) (entries : List (Entry (Option Specifics))) (answers : List Answer) → HasFit answer
    → AllByRecursion IsAnswer (told_answers entries answers) → AllByRecursion IsAnswer (told_answers (entry ∷ entries) (answer ∷ answers))
unfolding told_answers
answer_sayable entry (Success version) entries answers fit rest = (fits version fit, rest)
answer_sayable entry Conflict entries answers fit rest = (fits 0 (omega arith), rest)
answer_sayable entry Invalid entries answers fit rest = (fits 0 (omega arith), rest)
answer_sayable entry OverQuota entries answers fit rest = (fits 0 (omega arith), rest)

answers_sayable : (entries : List (Entry (Option Specifics))) (answers : List Answer) → AllByRecursion HasFit answers
    → AllByRecursion IsAnswer (told_answers entries answers)
unfolding told_answers
answers_sayable [] answers fit = tt
answers_sayable (entry ∷ entries) [] fit = tt
answers_sayable (entry ∷ entries) (answer ∷ answers) fit =
    answer_sayable entry answer entries answers fit.0 (answers_sayable entries answers fit.1)

-- updates

write_sayable : (seed : ℕ) (entry : Entry Content) → IsPlain entry → IsEntity (told_entity (form seed entry))
write_sayable seed entry plain = record {
  fits = record { version = fits entry.version plain.version; hash = plain.hash };
  extra = held_canonical seed entry plain;
}

writes_sayable : (seed : ℕ) (entries : List (Entry Content)) → AllByRecursion IsPlain entries → AllByRecursion IsEntity (map told_entity (map (form seed) entries))
writes_sayable seed [] plain = tt
writes_sayable seed (entry ∷ entries) plain = (write_sayable seed entry plain.0, writes_sayable seed entries plain.1)

-- a write is given once at most
few_given : (wanted : Bool) (version : ℕ) (write : Entry Content) → length (if wanted then as_given version write ∷ [] else []) ≤ 1
few_given true version write = omega arith
few_given false version write = omega arith

few_wanted : (marks : List Marker) (whole part : List (Entry Content)) → length (wanted_writes marks whole part) ≤ length part
unfolding wanted_writes
few_wanted marks whole [] = omega arith
few_wanted marks whole (write ∷ older) =
    let both = length-append (wanted_writes marks whole older)
    (if is_wanted marks whole (length older + 1) write then as_given (length older + 1) write ∷ [] else []) in
    omega (arith, both, few_wanted marks whole older, few_given (is_wanted marks whole (length older + 1) write) (length older + 1) write)

last_fits : (entries : List (Entry Content)) → AllByRecursion IsPlain entries → last_given entries < 2 ^ 64
last_fits [] plain = omega arith
last_fits (entry ∷ []) plain = plain.0.version
last_fits (first ∷ second ∷ rest) plain = last_fits (second ∷ rest) plain.1

-- the mark of a type that is asked for fits its type
abbrev MayFit : Option ℕ → Type 0
MayFit None = Unit {0}
MayFit (Some mark) = mark < 2 ^ 64

mark_fits_by : (later : Option ℕ) (is_of_kind : Bool) (mark : ℕ) → MayFit later → mark < 2 ^ 64
    → MayFit (option_or later (if is_of_kind then Some mark else None))
mark_fits_by None true mark later fit = fit
mark_fits_by None false mark later fit = tt
mark_fits_by (Some other) is_of_kind mark later fit = later

mark_fits : (kind : Kind) (marks : List Marker) → AllByRecursion (λ (marker : Marker). marker.mark < 2 ^ 64) marks → MayFit (mark_of kind marks)
mark_fits kind [] fit = tt
mark_fits kind (marker ∷ marks) fit = mark_fits_by (mark_of kind marks) (same_kind marker.kind kind) marker.mark (mark_fits kind marks fit.1) fit.0

new_mark_fits_by : (all : Bool) (count mark last : ℕ) → count < 2 ^ 64 → mark < 2 ^ 64 → last < 2 ^ 64 → (if all then count else max mark last) < 2 ^ 64
new_mark_fits_by true count mark last short fit given = short
new_mark_fits_by false count mark last short fit given = omega (arith, fit, given)

new_mark_fits : (history given : List (Entry Content)) (remaining mark : ℕ) → length history < 2 ^ 63 → mark < 2 ^ 64 → last_given given < 2 ^ 64
    → new_mark history given remaining mark < 2 ^ 64
new_mark_fits history given remaining mark short fit last =
    new_mark_fits_by (remaining == 0) (length history) mark (last_given given) (omega (arith, short)) fit last

new_marker_fits : (kind : Kind) (mark : Option ℕ) (next : ℕ → ℕ) → MayFit mark → ((m : ℕ) → m < 2 ^ 64 → next m < 2 ^ 64)
    → AllByRecursion (λ (marker : Marker). marker.mark < 2 ^ 64) (new_marker kind mark next)
new_marker_fits kind None next fit keeps = tt
new_marker_fits kind (Some mark) next fit keeps = (keeps mark fit, tt)

abbrev Fit : Marker → Type 0
Fit marker = marker.mark < 2 ^ 64

new_markers_fit : (marks : List Marker) (next : ℕ → ℕ) → AllByRecursion Fit marks → ((m : ℕ) → m < 2 ^ 64 → next m < 2 ^ 64)
    → AllByRecursion Fit (new_markers marks next)
new_markers_fit marks next fit keeps =
    all_append Fit (new_marker Nigori (mark_of Nigori marks) next ++ new_marker Preference (mark_of Preference marks) next)
    (new_marker Password (mark_of Password marks) next)
    (all_append Fit (new_marker Nigori (mark_of Nigori marks) next) (new_marker Preference (mark_of Preference marks) next)
    (new_marker_fits Nigori (mark_of Nigori marks) next (mark_fits Nigori marks fit) keeps)
    (new_marker_fits Preference (mark_of Preference marks) next (mark_fits Preference marks fit) keeps))
    (new_marker_fits Password (mark_of Password marks) next (mark_fits Password marks fit) keeps)

updates_sayable : (seed : ℕ) (history : List (Entry Content)) (marks : List Marker) (wanted : List (Entry Content)) → length history < 2 ^ 63
    → AllByRecursion Fit marks → AllByRecursion IsPlain wanted → length wanted ≤ length history
    → IsSayableReply (told_verdict [] (verdict_formed seed (Updated (updates_of history marks wanted))))
updates_sayable seed history marks wanted short fit plain few =
    let given : AllByRecursion IsPlain (take MAX_UPDATES wanted) = all_take IsPlain MAX_UPDATES wanted plain in (
      writes_sayable seed (take MAX_UPDATES wanted) given,
      omega (arith, short, few),
      markers_sayable (new_markers marks (new_mark history (take MAX_UPDATES wanted) (length wanted - MAX_UPDATES)))
          (new_markers_fit marks (new_mark history (take MAX_UPDATES wanted) (length wanted - MAX_UPDATES)) fit
          (λ (m : ℕ) below. new_mark_fits history (take MAX_UPDATES wanted) (length wanted - MAX_UPDATES) m short below (last_fits (take MAX_UPDATES wanted) given))),
    )

verdict_sayable : (seed : ℕ) (history : List (Entry Content)) (call : Call Content) → AllByRecursion IsPlain history → length history < 2 ^ 63 → IsPlainCall call
    → IsSayableReply (told_verdict (entries_of (call_formed seed call)) (verdict_formed seed (verdict_on is_invalid_entry history call)))
verdict_sayable seed history (calls.Commit entries) all short plain =
    answers_sayable (map (form seed) entries) (answers_to is_invalid_entry history entries) (answers_fit history entries)
verdict_sayable seed history (calls.Updates marks) all short plain =
    updates_sayable seed history marks (wanted_writes marks history history) short plain (wanted_are_plain marks history all short)
    (few_wanted marks history history)

verdict_unless_foreign : (seed : ℕ) (foreign : Bool) (entries : List (Entry (Option Specifics))) (verdict : Verdict Content)
    → IsSayableReply (told_verdict entries (verdict_formed seed verdict))
    → IsSayableReply (told_verdict entries (verdict_formed seed (if foreign then Refused NOT_MY_BIRTHDAY else verdict)))
verdict_unless_foreign seed true entries verdict sayable = (omega arith, omega arith)
verdict_unless_foreign seed false entries verdict sayable = sayable

pub replies_are_sayable : RepliesAreSayable
unfolding reply_to reply_told
replies_are_sayable seed history request all short plain =
    verdict_unless_foreign seed (is_foreign STORE_BIRTHDAY request.birthday) (entries_of (call_formed seed request.call))
    (verdict_on is_invalid_entry history request.call) (verdict_sayable seed history request.call all short plain)
