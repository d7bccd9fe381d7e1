-- What the model's server says of entries as a server has them is what it says of the plain ones.
use Rattle.std.proofs.Common.{◌≡◌, ℕ, ◌+◌, ◌-◌, Bool, true, false, List, [], ◌∷◌, ◌++◌, length, take, map, Option, refl, sym, ap, ◌∙◌}
use Rattle.std.proofs.lemmas.List.{length-map, map-append, take-map}
use Rattle.std.specs.List.{AllByRecursion}
use Rattle.std.specs.Prelude.{◌==◌, ◌&&◌, ◌||◌, nat_le, max, if◌then◌else◌, Some}
use Rattle.client_tags.specs.declared.Kind.{Kind}
use Rattle.client_tags.specs.declared.Kind.TheVariants.{Nigori}
use Rattle.sync_specifics.specs.declared.specifics.Specifics.{Specifics}
use Rattle.sync_model.specs.declared.message.Answer.{Answer}
use Rattle.sync_model.specs.declared.message.Answer.TheVariants.{Success, Conflict, Invalid, OverQuota}
use Rattle.sync_model.specs.declared.message.Call.{Call}
use Rattle.sync_model.specs.declared.message.Call.TheVariants as calls
use Rattle.sync_model.specs.declared.message.Content.{Content}
use Rattle.sync_model.specs.declared.message.Entry.{Entry}
use Rattle.sync_model.specs.declared.message.Key.{Key}
use Rattle.sync_model.specs.declared.message.Marker.{Marker}
use Rattle.sync_model.specs.declared.message.Request.{Request}
use Rattle.sync_model.specs.declared.message.Verdict.{Verdict}
use Rattle.sync_model.specs.declared.message.Verdict.TheVariants.{Committed, Updated, Refused}
use Rattle.sync_model.specs.Values.{same_kind, same_key, is_absent}
use Rattle.sync_model.specs.History.{last_version, key_count, MAX_KEYS, LAST_VERSION, is_over_quota, answer_to, history_with, committed, answers_to}
use Rattle.sync_model.specs.Servers.{mark_of, is_above, is_wanted, as_given, wanted_writes, MAX_UPDATES, last_given, new_markers, updates_of, verdict_on, history_after, is_foreign, NOT_MY_BIRTHDAY, reply_to, history_served}
use Rattle.sync_model.specs.Worlds.{is_invalid_entry}
use Rattle.replay_messages.specs.Entries.{is_invalid}
use Rattle.replay_messages.specs.Forms.{form, IsPlain, IsPlainCall, call_formed, request_formed, verdict_formed, reply_formed}

last_version-formed : (seed : ℕ) (history : List (Entry Content)) (key : Key) → last_version (map (form seed) history) key ≡ last_version history key
last_version-formed seed [] key = refl
last_version-formed seed (write ∷ older) key =
    λ i. if same_key write.key key then length-map older (form seed) i + 1 else last_version-formed seed older key i

key_count-formed : (seed : ℕ) (history : List (Entry Content)) → key_count (map (form seed) history) ≡ key_count history
key_count-formed seed [] = refl
key_count-formed seed (write ∷ older) =
    λ i. if (last_version-formed seed) older write.key i == 0 then key_count-formed seed older i + 1 else key_count-formed seed older i

is_over_quota-formed : (seed : ℕ) (history : List (Entry Content)) (entry : Entry Content)
    → is_over_quota (map (form seed) history) (form seed entry) ≡ is_over_quota history entry
is_over_quota-formed seed history entry =
    λ i. (entry.version == 0 && nat_le MAX_KEYS (key_count-formed seed history i)) || nat_le LAST_VERSION (length-map history (form seed) i)

-- a plain entry is valid
valid : (entry : Entry Content) → IsPlain entry → is_invalid_entry entry ≡ false
valid entry plain = ap (λ (kind : Kind). same_kind kind Nigori && is_absent entry.content.value) plain.kind

-- the answer to an entry that is valid
answer_if_valid : List (Entry Content) → Entry Content → Bool → Answer
answer_if_valid history entry invalid =
    if invalid then Invalid
    else (if entry.version == last_version history entry.key
    then (if is_over_quota history entry then OverQuota else Success (length history + 1))
    else Conflict)

answer_to-formed : (seed : ℕ) (history : List (Entry Content)) (entry : Entry Content) → IsPlain entry
    → answer_to is_invalid (map (form seed) history) (form seed entry) ≡ answer_to is_invalid_entry history entry
unfolding answer_to answer_if_valid
answer_to-formed seed history entry plain =
    (λ i. if entry.version == last_version-formed seed history entry.key i
    then (if (is_over_quota-formed seed) history entry i then OverQuota else Success (length-map history (form seed) i + 1))
    else Conflict)
    ∙ sym (ap (answer_if_valid history entry) (valid entry plain))

history_with-formed : (seed : ℕ) (history : List (Entry Content)) (entry : Entry Content) (answer : Answer)
    → history_with (map (form seed) history) (form seed entry) answer ≡ map (form seed) (history_with history entry answer)
history_with-formed seed history entry (Success version) = refl
history_with-formed seed history entry Conflict = refl
history_with-formed seed history entry Invalid = refl
history_with-formed seed history entry OverQuota = refl

-- the history after one entry was answered
next-formed : (seed : ℕ) (history : List (Entry Content)) (entry : Entry Content) → IsPlain entry
    → history_with (map (form seed) history) (form seed entry) (answer_to is_invalid (map (form seed) history) (form seed entry))
    ≡ map (form seed) (history_with history entry (answer_to is_invalid_entry history entry))
next-formed seed history entry plain =
    ap (history_with (map (form seed) history) (form seed entry)) (answer_to-formed seed history entry plain)
    ∙ history_with-formed seed history entry (answer_to is_invalid_entry history entry)

committed-formed : (seed : ℕ) (history entries : List (Entry Content)) → AllByRecursion IsPlain entries
    → committed is_invalid (map (form seed) history) (map (form seed) entries) ≡ map (form seed) (committed is_invalid_entry history entries)
unfolding committed
committed-formed seed history [] plain = refl
committed-formed seed history (entry ∷ entries) plain =
    ap (λ (next : List (Entry (Option Specifics))). committed is_invalid next (map (form seed) entries)) (next-formed seed history entry plain.0)
    ∙ committed-formed seed (history_with history entry (answer_to is_invalid_entry history entry)) entries plain.1

answers_to-formed : (seed : ℕ) (history entries : List (Entry Content)) → AllByRecursion IsPlain entries
    → answers_to is_invalid (map (form seed) history) (map (form seed) entries) ≡ answers_to is_invalid_entry history entries
unfolding answers_to
answers_to-formed seed history [] plain = refl
answers_to-formed seed history (entry ∷ entries) plain =
    (λ i. answer_to-formed seed history entry plain.0 i ∷ answers_to is_invalid (next-formed seed history entry plain.0 i) (map (form seed) entries))
    ∙ ap (λ (rest : List Answer). answer_to is_invalid_entry history entry ∷ rest)
    (answers_to-formed seed (history_with history entry (answer_to is_invalid_entry history entry)) entries plain.1)

-- a write that is wanted, or none
given-formed : (seed : ℕ) (wanted : Bool) (version : ℕ) (write : Entry Content)
    → (if wanted then as_given version (form seed write) ∷ [] else []) ≡ map (form seed) (if wanted then as_given version write ∷ [] else [])
given-formed seed true version write = refl
given-formed seed false version write = refl

wanted_writes-formed : (seed : ℕ) (marks : List Marker) (whole part : List (Entry Content))
    → wanted_writes marks (map (form seed) whole) (map (form seed) part) ≡ map (form seed) (wanted_writes marks whole part)
unfolding wanted_writes
wanted_writes-formed seed marks whole [] = refl
wanted_writes-formed seed marks whole (write ∷ older) =
    (λ i. wanted_writes-formed seed marks whole older i
    ++ (if (last_version-formed seed) whole write.key i == length-map older (form seed) i + 1
    && is_above (mark_of write.key.kind marks) (length-map older (form seed) i + 1)
    then as_given (length-map older (form seed) i + 1) (form seed write) ∷ [] else []))
    ∙ ap (λ (last : List (Entry (Option Specifics))). map (form seed) (wanted_writes marks whole older) ++ last)
    (given-formed seed (is_wanted marks whole (length older + 1) write) (length older + 1) write)
    ∙ sym (map-append (form seed) (wanted_writes marks whole older)
    (if is_wanted marks whole (length older + 1) write then as_given (length older + 1) write ∷ [] else []))

last_given-formed : (seed : ℕ) (entries : List (Entry Content)) → last_given (map (form seed) entries) ≡ last_given entries
last_given-formed seed [] = refl
last_given-formed seed (entry ∷ []) = refl
last_given-formed seed (first ∷ second ∷ rest) = last_given-formed seed (second ∷ rest)

-- the last that is given of some wanted writes
last_of-formed : (seed : ℕ) (wanted : List (Entry Content)) → last_given (take MAX_UPDATES (map (form seed) wanted)) ≡ last_given (take MAX_UPDATES wanted)
last_of-formed seed wanted = ap last_given (take-map (form seed) MAX_UPDATES wanted) ∙ last_given-formed seed (take MAX_UPDATES wanted)

updates-formed : (seed : ℕ) (history : List (Entry Content)) (marks : List Marker) (wanted : List (Entry Content))
    → Updated (updates_of (map (form seed) history) marks (map (form seed) wanted)) ≡ verdict_formed seed (Updated (updates_of history marks wanted))
updates-formed seed history marks wanted =
    λ i. Updated (record {
      entries = take-map (form seed) MAX_UPDATES wanted i;
      remaining = length-map wanted (form seed) i - MAX_UPDATES;
      marks = new_markers marks (λ (mark : ℕ). if length-map wanted (form seed) i - MAX_UPDATES == 0 then length-map history (form seed) i
          else max mark (last_of-formed seed wanted i));
    })

verdict_on-formed : (seed : ℕ) (history : List (Entry Content)) (call : Call Content) → IsPlainCall call
    → verdict_on is_invalid (map (form seed) history) (call_formed seed call) ≡ verdict_formed seed (verdict_on is_invalid_entry history call)
verdict_on-formed seed history (calls.Commit entries) plain = ap Committed (answers_to-formed seed history entries plain)
verdict_on-formed seed history (calls.Updates marks) plain =
    ap (λ (wanted : List (Entry (Option Specifics))). Updated (updates_of (map (form seed) history) marks wanted)) (wanted_writes-formed seed marks history history)
    ∙ updates-formed seed history marks (wanted_writes marks history history)

history_after-formed : (seed : ℕ) (history : List (Entry Content)) (call : Call Content) → IsPlainCall call
    → history_after is_invalid (map (form seed) history) (call_formed seed call) ≡ map (form seed) (history_after is_invalid_entry history call)
history_after-formed seed history (calls.Commit entries) plain = committed-formed seed history entries plain
history_after-formed seed history (calls.Updates marks) plain = refl

verdict_unless : (seed : ℕ) (foreign : Bool) (formed : Verdict (Option Specifics)) (verdict : Verdict Content) → formed ≡ verdict_formed seed verdict
    → (if foreign then Refused NOT_MY_BIRTHDAY else formed) ≡ verdict_formed seed (if foreign then Refused NOT_MY_BIRTHDAY else verdict)
verdict_unless seed true formed verdict same = refl
verdict_unless seed false formed verdict same = same

history_unless : (seed : ℕ) (foreign : Bool) (history after : List (Entry Content)) (formed : List (Entry (Option Specifics))) → formed ≡ map (form seed) after
    → (if foreign then map (form seed) history else formed) ≡ map (form seed) (if foreign then history else after)
history_unless seed true history after formed same = refl
history_unless seed false history after formed same = same

pub reply_to-formed : (seed : ℕ) (birthday : List ℕ) (history : List (Entry Content)) (request : Request Content) → IsPlainCall request.call
    → reply_to is_invalid birthday (map (form seed) history) (request_formed seed request) ≡ reply_formed seed (reply_to is_invalid_entry birthday history request)
unfolding reply_to
reply_to-formed seed birthday history request plain =
    ap (λ (verdict : Verdict (Option Specifics)). record { birthday = Some birthday; verdict = verdict })
    (verdict_unless seed (is_foreign birthday request.birthday) (verdict_on is_invalid (map (form seed) history) (call_formed seed request.call))
    (verdict_on is_invalid_entry history request.call) (verdict_on-formed seed history request.call plain))

pub history_served-formed : (seed : ℕ) (birthday : List ℕ) (history : List (Entry Content)) (request : Request Content) → IsPlainCall request.call
    → history_served is_invalid birthday (map (form seed) history) (request_formed seed request)
    ≡ map (form seed) (history_served is_invalid_entry birthday history request)
unfolding history_served
history_served-formed seed birthday history request plain =
    history_unless seed (is_foreign birthday request.birthday) history (history_after is_invalid_entry history request.call)
    (history_after is_invalid (map (form seed) history) (call_formed seed request.call)) (history_after-formed seed history request.call plain)
