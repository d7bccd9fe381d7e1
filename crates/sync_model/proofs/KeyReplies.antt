-- What a server gives and acknowledges of the profile's keys is in its history, and a client that is told it has its keys.
use Rattle.std.proofs.Common.{◌≡◌, ℕ, zero, suc, ◌+◌, Bool, true, false, cond, ◌||◌, not, List, [], ◌∷◌, ◌++◌, length, slice_get, Option, Some, None, refl, sym, ap, ◌∙◌, subst, IsTrue}
use Rattle.std.proofs.lemmas.Bool.{cond-true, cond_both}
use Rattle.std.proofs.lemmas.Option.{none-some, same_Some}
use Rattle.client_tags.specs.declared.Kind.TheVariants.{Nigori}
use Rattle.sync_values.specs.declared.value.Value.TheVariants.{Absent}
use Rattle.sync_model.specs.declared.event.EventOutcome.{EventOutcome}
use Rattle.sync_model.specs.declared.event.EventOutcome.TheVariants.{Done}
use Rattle.sync_model.specs.declared.message.Ack.{Ack}
use Rattle.sync_model.specs.declared.message.Answer.{Answer}
use Rattle.sync_model.specs.declared.message.Answer.TheVariants.{Success, Conflict, Invalid, OverQuota}
use Rattle.sync_model.specs.declared.message.Call.{Call}
use Rattle.sync_model.specs.declared.message.Call.TheVariants.{Commit, Updates as AskUpdates}
use Rattle.sync_model.specs.declared.message.Content.{Content}
use Rattle.sync_model.specs.declared.message.Entry.{Entry}
use Rattle.sync_model.specs.declared.message.Marker.{Marker}
use Rattle.sync_model.specs.declared.message.Reply.{Reply}
use Rattle.sync_model.specs.declared.message.Request.{Request}
use Rattle.sync_model.specs.declared.message.Updates.{Updates}
use Rattle.sync_model.specs.declared.message.Verdict.{Verdict}
use Rattle.sync_model.specs.declared.message.Verdict.TheVariants.{Committed, Updated, Refused}
use Rattle.sync_model.specs.Values.{same_kind}
use Rattle.sync_model.specs.Settings.{Setting, names_of}
use Rattle.sync_model.specs.History.{write_at}
use Rattle.sync_model.specs.Servers.{mark_of, is_wanted, as_given, wanted_writes, MAX_UPDATES, verdict_on, history_after, is_foreign, NOT_MY_BIRTHDAY, reply_to, history_served}
use Rattle.sync_model.specs.Clients.{Client}
use Rattle.sync_model.specs.Receiving.{ack_of, ack_for, acks_of, letter_of, update_of, updates_in, batch_letter, letter_in, is_fit, is_other_store, side_told, told, answered_with, answer_effect}
use Rattle.sync_model.specs.Outcomes.{entries_in, entries_sent, writes_in}
use Rattle.sync_model.specs.Laws.{answer_in}
use Rattle.sync_model.specs.Worlds.{outcome_at, STORE_BIRTHDAY, is_invalid_entry}
use Rattle.sync_model.specs.Deliveries.{IsStored}
use Rattle.sync_model.specs.KeyFacts.{Each, names_in, profile_value, profile_at, IsOfProfile, HistoryHasKeys, KeepsKeys, IsTold, IsGiven, UpdateTells, AckTells, LetterTells, names_sent, names_awaited, names_acked, names_in_letter, names_in_tasks, under_way, HasKeys}
use Rattle.sync_model.proofs.Histories.{at_top, write_at-le, write_at-newest, write_at-kept}
use Rattle.sync_model.proofs.EachLemmas.{Each-append, Each-take}
use Rattle.sync_model.proofs.KeyNames.{has_names-self, has_names-both, has_names-parts}
use Rattle.sync_model.proofs.KeyHistory.{GoesOnWithKeys, GoesOnWithKeys-self, committed-GoesOnWithKeys, profile_at-kept, profile_at-newest}
use Rattle.sync_model.proofs.KeyClients.{Has, has_four, way_parts, ClientHasKeys-less}
use Rattle.sync_model.proofs.KeyEvents.{MayHaveKeys, HasKeys-next, gives_up}

-- what is so of each write is so of that of a version
each_write : (Is : Entry Content → Type 0) (history : List (Entry Content)) (version : ℕ) (write : Entry Content) → write_at history version ≡ Some write
    → Each Is history → Is write
each_write Is [] version write at each = absurd (none-some write at)
each_write Is (newest ∷ older) version write at each =
    at_top write newest older version at (λ here same. subst Is same each.0) (λ before. each_write Is older version write before each.1)

-- the value of a write of the profile's keys
profile_at-write : (history : List (Entry Content)) (version : ℕ) (write : Entry Content) → write_at history version ≡ Some write
    → IsTrue (same_kind write.key.kind Nigori) → write.content.value ≡ profile_at history version
profile_at-write [] version write at is = absurd (none-some write at)
profile_at-write (newest ∷ older) version write at is =
    at_top write newest older version at
    (λ here same. sym (ap (λ (place : ℕ). profile_at (newest ∷ older) place) here ∙ profile_at-newest newest older
    ∙ ap profile_value same ∙ cond-true (same_kind write.key.kind Nigori) write.content.value Absent is))
    (λ before. profile_at-write older version write before is ∙ sym (profile_at-kept newest older version (write_at-le older version write before)))

-- a write of the profile's keys may be told
told_of_write : (setting : Setting) (history : List (Entry Content)) (version : ℕ) (write : Entry Content) → HistoryHasKeys setting history
    → write_at history version ≡ Some write → IsTrue (same_kind write.key.kind Nigori)
    → IsTold setting history write.key.hash version write.content.value
told_of_write setting history version write kept at is = record {
  entity = each_write (IsOfProfile setting) history version write at kept.entities is;
  known = record { within = write_at-le history version write at; is = profile_at-write history version write at is };
}

-- what is wanted of the oldest part of a history is in it
wanted-given : (setting : Setting) (marks : List Marker) (whole part : List (Entry Content)) → HistoryHasKeys setting whole
    → ((version : ℕ) (write : Entry Content) → write_at part version ≡ Some write → write_at whole version ≡ Some write)
    → Each (IsGiven setting whole) (wanted_writes marks whole part)
unfolding wanted_writes
wanted-given setting marks whole [] kept within = tt
wanted-given setting marks whole (write ∷ older) kept within =
    Each-append (IsGiven setting whole) (wanted_writes marks whole older)
    (cond (is_wanted marks whole (length older + 1) write) (as_given (length older + 1) write ∷ []) [])
    (wanted-given setting marks whole older kept (λ version found at. within version found (write_at-kept write older version found at)))
    (cond_both (is_wanted marks whole (length older + 1) write) (as_given (length older + 1) write ∷ []) []
    (λ (given : List (Entry Content)). Each (IsGiven setting whole) given)
    (λ wanted. (λ is. told_of_write setting whole (length older + 1) write kept (within (length older + 1) write (write_at-newest write older)) is, tt))
    (λ other. tt))

-- what a verdict gives is in the history
verdict-given : (setting : Setting) (history : List (Entry Content)) (call : Call Content) → HistoryHasKeys setting history
    → Each (IsGiven setting (history_after is_invalid_entry history call)) (writes_in (verdict_on is_invalid_entry history call))
verdict-given setting history (Commit entries) kept = tt
verdict-given setting history (AskUpdates marks) kept =
    Each-take (IsGiven setting history) MAX_UPDATES (wanted_writes marks history history)
    (wanted-given setting marks history history kept (λ version write at. at))

given_by : (setting : Setting) (history : List (Entry Content)) (call : Call Content) (foreign : Bool) → HistoryHasKeys setting history
    → Each (IsGiven setting (cond foreign history (history_after is_invalid_entry history call)))
    (writes_in (cond foreign (Refused NOT_MY_BIRTHDAY) (verdict_on is_invalid_entry history call)))
given_by setting history call true kept = tt
given_by setting history call false kept = verdict-given setting history call kept

pub reply-given : (setting : Setting) (history : List (Entry Content)) (request : Request Content) → HistoryHasKeys setting history
    → Each (IsGiven setting (history_served is_invalid_entry STORE_BIRTHDAY history request))
    (writes_in (reply_to is_invalid_entry STORE_BIRTHDAY history request).verdict)
unfolding reply_to history_served
reply-given setting history request kept = given_by setting history request.call (is_foreign STORE_BIRTHDAY request.birthday) kept

after-GoesOnWithKeys : (setting : Setting) (history : List (Entry Content)) (call : Call Content) → HistoryHasKeys setting history
    → Each (KeepsKeys setting history) (entries_in call) → GoesOnWithKeys setting history (history_after is_invalid_entry history call)
after-GoesOnWithKeys setting history (Commit entries) kept keeps = committed-GoesOnWithKeys setting is_invalid_entry history entries kept keeps
after-GoesOnWithKeys setting history (AskUpdates marks) kept keeps = GoesOnWithKeys-self setting history kept

served_by : (setting : Setting) (history : List (Entry Content)) (call : Call Content) (foreign : Bool) → HistoryHasKeys setting history
    → Each (KeepsKeys setting history) (entries_in call) → GoesOnWithKeys setting history (cond foreign history (history_after is_invalid_entry history call))
served_by setting history call true kept keeps = GoesOnWithKeys-self setting history kept
served_by setting history call false kept keeps = after-GoesOnWithKeys setting history call kept keeps

-- a request of entries that keep the keys leaves them kept
pub served-GoesOnWithKeys : (setting : Setting) (history : List (Entry Content)) (request : Request Content) → HistoryHasKeys setting history
    → Each (KeepsKeys setting history) (entries_in request.call)
    → GoesOnWithKeys setting history (history_served is_invalid_entry STORE_BIRTHDAY history request)
unfolding history_served
served-GoesOnWithKeys setting history request kept keeps =
    served_by setting history request.call (is_foreign STORE_BIRTHDAY request.birthday) kept keeps

-- an entry whose answer is a success is a write
abbrev AreStored : List (Entry Content) → List (Entry Content) → Verdict Content → Type 0
AreStored history entries verdict = (place version : ℕ) → answer_in verdict place ≡ Some (Success version)
    → (entry : Entry Content) × (slice_get entries place ≡ Some entry) × (write_at history version ≡ Some entry)

ack_by : (setting : Setting) (history : List (Entry Content)) (entry : Entry Content) (version : ℕ) (of : Bool) → same_kind entry.key.kind Nigori ≡ of
    → HistoryHasKeys setting history → write_at history version ≡ Some entry
    → Each (AckTells setting history) (cond of (ack_of entry version ∷ []) [])
ack_by setting history entry version true is kept at = (told_of_write setting history version entry kept at is, tt)
ack_by setting history entry version false is kept at = tt

ack_for-tells : (setting : Setting) (history : List (Entry Content)) (entry : Entry Content) (answer : Answer) → HistoryHasKeys setting history
    → ((version : ℕ) → answer ≡ Success version → write_at history version ≡ Some entry)
    → Each (AckTells setting history) (ack_for Nigori entry answer)
ack_for-tells setting history entry (Success version) kept stored =
    ack_by setting history entry version (same_kind entry.key.kind Nigori) refl kept (stored version refl)
ack_for-tells setting history entry Conflict kept stored = tt
ack_for-tells setting history entry Invalid kept stored = tt
ack_for-tells setting history entry OverQuota kept stored = tt

-- the acknowledgements of the profile's keys tell of writes
acks_of-tells : (setting : Setting) (history : List (Entry Content)) (entries : List (Entry Content)) (answers : List Answer) → HistoryHasKeys setting history
    → AreStored history entries (Committed answers) → Each (AckTells setting history) (acks_of Nigori entries answers)
unfolding acks_of
acks_of-tells setting history [] answers kept stored = tt
acks_of-tells setting history (entry ∷ entries) [] kept stored = tt
acks_of-tells setting history (entry ∷ entries) (answer ∷ answers) kept stored =
    Each-append (AckTells setting history) (ack_for Nigori entry answer) (acks_of Nigori entries answers)
    (ack_for-tells setting history entry answer kept
    (λ version is. let found = stored zero version (ap Some is)
    in subst (λ (write : Entry Content). write_at history version ≡ Some write) (sym (same_Some entry found.0 found.1)) found.2))
    (acks_of-tells setting history entries answers kept (λ place version is. stored (suc place) version is))

ack_for_by : (setting : Setting) (names : List (List ℕ)) (entry : Entry Content) (version : ℕ) (of : Bool)
    → Has names (names_in setting (cond of entry.content.value Absent)) → Has names (names_acked setting (cond of (ack_of entry version ∷ []) []))
ack_for_by setting names entry version true has = has_names-both names (names_in setting entry.content.value) [] has refl
ack_for_by setting names entry version false has = refl

ack_for-names : (setting : Setting) (names : List (List ℕ)) (entry : Entry Content) (answer : Answer) → Has names (names_in setting (profile_value entry))
    → Has names (names_acked setting (ack_for Nigori entry answer))
ack_for-names setting names entry (Success version) has = ack_for_by setting names entry version (same_kind entry.key.kind Nigori) has
ack_for-names setting names entry Conflict has = refl
ack_for-names setting names entry Invalid has = refl
ack_for-names setting names entry OverQuota has = refl

names_acked-both : (setting : Setting) (names : List (List ℕ)) (first second : List Ack) → Has names (names_acked setting first)
    → Has names (names_acked setting second) → Has names (names_acked setting (first ++ second))
names_acked-both setting names [] second one other = other
names_acked-both setting names (ack ∷ first) second one other =
    let parts = has_names-parts names (names_in setting ack.value) (names_acked setting first) one
    in has_names-both names (names_in setting ack.value) (names_acked setting (first ++ second)) parts.0
    (names_acked-both setting names first second parts.1 other)

-- the acknowledged keys were sent
acks_of-names : (setting : Setting) (names : List (List ℕ)) (entries : List (Entry Content)) (answers : List Answer) → Has names (names_sent setting entries)
    → Has names (names_acked setting (acks_of Nigori entries answers))
unfolding acks_of
acks_of-names setting names [] answers has = refl
acks_of-names setting names (entry ∷ entries) [] has = refl
acks_of-names setting names (entry ∷ entries) (answer ∷ answers) has =
    let parts = has_names-parts names (names_in setting (profile_value entry)) (names_sent setting entries) has
    in names_acked-both setting names (ack_for Nigori entry answer) (acks_of Nigori entries answers)
    (ack_for-names setting names entry answer parts.0) (acks_of-names setting names entries answers parts.1)

update_by : (setting : Setting) (history : List (Entry Content)) (entry : Entry Content) (of : Bool) → same_kind entry.key.kind Nigori ≡ of
    → IsGiven setting history entry → Each (UpdateTells setting history) (cond of (update_of entry ∷ []) [])
update_by setting history entry true is given = (given is, tt)
update_by setting history entry false is given = tt

-- the updates of the profile's keys tell of writes
updates_in-tells : (setting : Setting) (history : List (Entry Content)) (entries : List (Entry Content)) → Each (IsGiven setting history) entries
    → Each (UpdateTells setting history) (updates_in Nigori entries)
unfolding updates_in
updates_in-tells setting history [] given = tt
updates_in-tells setting history (entry ∷ entries) given =
    Each-append (UpdateTells setting history) (cond (same_kind entry.key.kind Nigori) (update_of entry ∷ []) []) (updates_in Nigori entries)
    (update_by setting history entry (same_kind entry.key.kind Nigori) refl given.0) (updates_in-tells setting history entries given.1)

-- a letter of acknowledgements tells what these do, and has their names
letter_of-tells : (setting : Setting) (history : List (Entry Content)) (acks : List Ack) → Each (AckTells setting history) acks
    → LetterTells setting history (letter_of acks)
letter_of-tells setting history [] tells = tt
letter_of-tells setting history (ack ∷ acks) tells = tells

letter_of-names : (setting : Setting) (names : List (List ℕ)) (acks : List Ack) → Has names (names_acked setting acks)
    → Has names (names_in_letter setting (letter_of acks))
letter_of-names setting names [] has = refl
letter_of-names setting names (ack ∷ acks) has = has

batch_letter-tells : (setting : Setting) (history : List (Entry Content)) (asked : Option ℕ) (updates : Updates Content)
    → Each (IsGiven setting history) updates.entries → LetterTells setting history (batch_letter Nigori asked updates)
batch_letter-tells setting history None updates given = tt
batch_letter-tells setting history (Some asked) updates given = updates_in-tells setting history updates.entries given

batch_letter-names : (setting : Setting) (names : List (List ℕ)) (asked : Option ℕ) (updates : Updates Content)
    → Has names (names_in_letter setting (batch_letter Nigori asked updates))
batch_letter-names setting names None updates = refl
batch_letter-names setting names (Some asked) updates = refl

-- what a reply says of the profile's keys tells of writes
letter_in-tells : (setting : Setting) (history : List (Entry Content)) (call : Call Content) (verdict : Verdict Content) → HistoryHasKeys setting history
    → AreStored history (entries_in call) verdict → Each (IsGiven setting history) (writes_in verdict) → LetterTells setting history (letter_in Nigori call verdict)
letter_in-tells setting history (Commit entries) (Committed answers) kept stored given =
    letter_of-tells setting history (acks_of Nigori entries answers) (acks_of-tells setting history entries answers kept stored)
letter_in-tells setting history (Commit entries) (Updated updates) kept stored given = tt
letter_in-tells setting history (Commit entries) (Refused code) kept stored given = tt
letter_in-tells setting history (AskUpdates marks) (Committed answers) kept stored given = tt
letter_in-tells setting history (AskUpdates marks) (Updated updates) kept stored given =
    batch_letter-tells setting history (mark_of Nigori marks) updates given
letter_in-tells setting history (AskUpdates marks) (Refused code) kept stored given = tt

-- the keys that a reply acknowledges were sent
letter_in-names : (setting : Setting) (names : List (List ℕ)) (call : Call Content) (verdict : Verdict Content) → Has names (names_sent setting (entries_in call))
    → Has names (names_in_letter setting (letter_in Nigori call verdict))
letter_in-names setting names (Commit entries) (Committed answers) has =
    letter_of-names setting names (acks_of Nigori entries answers) (acks_of-names setting names entries answers has)
letter_in-names setting names (Commit entries) (Updated updates) has = refl
letter_in-names setting names (Commit entries) (Refused code) has = refl
letter_in-names setting names (AskUpdates marks) (Committed answers) has = refl
letter_in-names setting names (AskUpdates marks) (Updated updates) has = batch_letter-names setting names (mark_of Nigori marks) updates
letter_in-names setting names (AskUpdates marks) (Refused code) has = refl

-- a client takes what the reply that it waits for says
told-HasKeys : (setting : Setting) (history : List (Entry Content)) (outcomes : List EventOutcome) (event : ℕ) (request : Request Content) (reply : Reply Content)
    (client : Client) → client.outstanding ≡ Some event → entries_sent (outcome_at outcomes event) ≡ entries_in request.call
    → LetterTells setting history (letter_in Nigori request.call reply.verdict) → HasKeys setting history outcomes client
    → HasKeys setting history outcomes (told request.call reply client)
told-HasKeys setting history outcomes event request reply client waits sent tells has =
    let way : List (List ℕ) = under_way setting outcomes client.nigori client.held client.outstanding
    in let parts = way_parts setting outcomes client.nigori client.held client.outstanding
    in let all : Has way (names_sent setting (entries_in request.call))
    = subst (λ (entries : List (Entry Content)). Has way (names_sent setting entries)) sent
    (subst (λ (outstanding : Option ℕ). Has way (names_awaited setting outcomes outstanding)) waits parts.awaited)
    in ClientHasKeys-less setting history outcomes client.nigori (side_told Nigori request.call reply.verdict client.nigori) client.bag client.bag client.held client.held
    client.outstanding None refl (has_names-self (names_of setting client.bag))
    (has_four way (names_sent setting client.held) [] (names_in_letter setting (letter_in Nigori request.call reply.verdict)) (names_in_tasks setting client.nigori.mailbox)
    parts.held refl (letter_in-names setting way request.call reply.verdict all) parts.mailbox)
    has.holds tt has.mailbox has.opened tells has.pending has

-- the reply that a client waits for reaches it
pub answer_effect-HasKeys : (setting : Setting) (history : List (Entry Content)) (outcomes : List EventOutcome) (event : ℕ) (request : Request Content)
    (reply : Reply Content) (client : Client) → HistoryHasKeys setting history → client.outstanding ≡ Some event
    → entries_sent (outcome_at outcomes event) ≡ entries_in request.call
    → ((place version : ℕ) → answer_in reply.verdict place ≡ Some (Success version) → IsStored history outcomes event place version)
    → Each (IsGiven setting history) (writes_in reply.verdict) → HasKeys setting history outcomes client
    → MayHaveKeys setting history outcomes (answer_effect request reply client)
unfolding answer_effect
answer_effect-HasKeys setting history outcomes event request reply client kept waits sent stored given has =
    let tells = letter_in-tells setting history request.call reply.verdict kept
    (λ place version is. let found = stored place version is in (found.entry, ap (λ (entries : List (Entry Content)). slice_get entries place) (sym sent) ∙ found.is_sent, found.is_write)) given
    in record {
      client = HasKeys-next setting history Done outcomes (answered_with request reply client)
          (cond_both (is_other_store client.birthday reply.birthday || not (is_fit request.call reply.verdict)) (record client { outstanding = None })
          (told request.call reply client) (λ (next : Client). HasKeys setting history outcomes next)
          (λ ends. gives_up setting history outcomes client has)
          (λ fits. told-HasKeys setting history outcomes event request reply client waits sent tells has));
      sent = tt;
      gave = tt;
    }
