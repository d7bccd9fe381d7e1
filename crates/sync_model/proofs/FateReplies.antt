-- What a reply says: its updates are of different keys, and its acknowledgements are of what the client sent.
use Rattle.std.proofs.Common.{◌≡◌, ℕ, zero, suc, ◌+◌, ◌≤◌, Bool, true, false, cond, List, [], ◌∷◌, ◌++◌, length, take, Option, Some, None, refl, sym, ap, ◌∙◌, subst, eqb, arith, IfSome, ◌||◌, not}
use Rattle.std.specs.List.{AllByRecursion, slice_get}
use Rattle.std.proofs.lemmas.Bool.{eqb-true, and_parts}
use Rattle.client_tags.specs.declared.Kind.{Kind}
use Rattle.client_tags.specs.declared.Kind.TheVariants.{Nigori, Preference, Password}
use Rattle.sync_model.specs.declared.event.EventOutcome.{EventOutcome}
use Rattle.sync_model.specs.declared.event.EventOutcome.TheVariants.{Requested, Delivered}
use Rattle.sync_model.specs.declared.message.Ack.{Ack}
use Rattle.sync_model.specs.declared.message.Answer.{Answer}
use Rattle.sync_model.specs.declared.message.Answer.TheVariants.{Success, Conflict, Invalid, OverQuota}
use Rattle.sync_model.specs.declared.message.Call.{Call}
use Rattle.sync_model.specs.declared.message.Call.TheVariants.{Commit, Updates as AskUpdates}
use Rattle.sync_model.specs.declared.message.Content.{Content}
use Rattle.sync_model.specs.declared.message.Entry.{Entry}
use Rattle.sync_model.specs.declared.message.Key.{Key}
use Rattle.sync_model.specs.declared.message.Marker.{Marker}
use Rattle.sync_model.specs.declared.message.Reply.{Reply}
use Rattle.sync_model.specs.declared.message.Request.{Request}
use Rattle.sync_model.specs.declared.message.Update.{Update}
use Rattle.sync_model.specs.declared.message.Updates.{Updates}
use Rattle.sync_model.specs.declared.message.Verdict.{Verdict}
use Rattle.sync_model.specs.declared.message.Verdict.TheVariants.{Committed, Updated, Refused}
use Rattle.sync_model.specs.Values.{same_kind}
use Rattle.sync_model.specs.History.{last_version}
use Rattle.sync_model.specs.Servers.{mark_of, is_above, is_wanted, as_given, wanted_writes, MAX_UPDATES, verdict_on, is_foreign, NOT_MY_BIRTHDAY, reply_to}
use Rattle.sync_model.specs.Clients.{Client, side_of}
use Rattle.sync_model.specs.Receiving.{ack_of, ack_for, acks_of, letter_of, update_of, updates_in, batch_letter, letter_in, side_told, is_other_store, is_fit, told, answer_effect}
use Rattle.sync_model.specs.Worlds.{outcome_at}
use Rattle.sync_model.specs.Laws.{answer_in, Stores}
use Rattle.sync_model.specs.FateFacts.{Saying, IsSaidOfEntry, IsSaidOfCall, HasNoUpdate, AreOfDistinctKeys, IsOfDistinctKeys, IsSentBy, IsSaidOfAck, IsSaidOfTask, IsSaidOfSide, IsSaidOfClient}
use Rattle.sync_model.proofs.Writes.{same_kind-true}
use Rattle.sync_model.proofs.TrueAcks.{all_append}
use Rattle.sync_model.proofs.WantedWrites.{all_take, wanted_within}
use Rattle.sync_model.proofs.FateWays.{alike-said, IsSaidOfEffect, done_said}

-- some entries are of different keys
abbrev Apart : List (Entry Content) → Type 0
Apart [] = Unit {0}
Apart (entry ∷ entries) = AllByRecursion (λ other. other.key ≡ entry.key → ⊥) entries × Apart entries

apart_more : (entries : List (Entry Content)) (last : Entry Content) → AllByRecursion (λ entry. last.key ≡ entry.key → ⊥) entries
    → Apart entries → Apart (entries ++ last ∷ [])
apart_more [] last others apart = (tt, tt)
apart_more (entry ∷ entries) last others apart =
    (all_append (λ other. other.key ≡ entry.key → ⊥) entries (last ∷ []) apart.0 (others.0, tt), apart_more entries last others.1 apart.1)

apart_take : (count : ℕ) (entries : List (Entry Content)) → Apart entries → Apart (take count entries)
apart_take zero entries apart = tt
apart_take (suc count) [] apart = tt
apart_take (suc count) (entry ∷ entries) apart =
    (all_take (λ other. other.key ≡ entry.key → ⊥) count entries apart.0, apart_take count entries apart.1)

-- each wanted write is the last of its key
abbrev IsLast : List (Entry Content) → Entry Content → Type 0
IsLast whole entry = last_version whole entry.key ≡ entry.version

wanted_last_by : (marks : List Marker) (whole : List (Entry Content)) (version : ℕ) (write : Entry Content) (wanted : Bool)
    → is_wanted marks whole version write ≡ wanted → AllByRecursion (IsLast whole) (cond wanted (as_given version write ∷ []) [])
wanted_last_by marks whole version write true is = (eqb-true _ _ (and_parts (eqb (last_version whole write.key) version) (is_above (mark_of write.key.kind marks) version) is).0, tt)
wanted_last_by marks whole version write false is = tt

wanted_last : (marks : List Marker) (whole part : List (Entry Content)) → AllByRecursion (IsLast whole) (wanted_writes marks whole part)
unfolding wanted_writes
wanted_last marks whole [] = tt
wanted_last marks whole (write ∷ older) =
    all_append (IsLast whole) (wanted_writes marks whole older) _ (wanted_last marks whole older)
    (wanted_last_by marks whole (length older + 1) write (is_wanted marks whole (length older + 1) write) refl)

-- a later write that is the last of its key is of another key
later_apart : (whole : List (Entry Content)) (bound version : ℕ) (write : Entry Content) (entries : List (Entry Content)) → bound ≤ version
    → last_version whole write.key ≡ version + 1
    → AllByRecursion (IsLast whole) entries → AllByRecursion (λ entry. entry.version ≤ bound) entries
    → AllByRecursion (λ entry. write.key ≡ entry.key → ⊥) entries
later_apart whole bound version write [] le is lasts within = tt
later_apart whole bound version write (entry ∷ entries) le is lasts within = (
  (λ same. let twice : last_version whole write.key ≡ last_version whole entry.key = ap (λ (key : Key). last_version whole key) same in
      omega (arith, twice, is, lasts.0, within.0, le)),
  later_apart whole bound version write entries le is lasts.1 within.1,
)

wanted_apart_by : (marks : List Marker) (whole older : List (Entry Content)) (write : Entry Content) (wanted : Bool)
    → is_wanted marks whole (length older + 1) write ≡ wanted → Apart (wanted_writes marks whole older)
    → Apart (wanted_writes marks whole older ++ cond wanted (as_given (length older + 1) write ∷ []) [])
wanted_apart_by marks whole older write true is apart =
    apart_more (wanted_writes marks whole older) (as_given (length older + 1) write)
    (later_apart whole (length older) (length older) write (wanted_writes marks whole older) (omega arith)
    (eqb-true _ _ (and_parts (eqb (last_version whole write.key) (length older + 1)) (is_above (mark_of write.key.kind marks) (length older + 1)) is).0)
    (wanted_last marks whole older) (wanted_within marks whole older)) apart
wanted_apart_by marks whole older write false is apart = apart_nil (wanted_writes marks whole older) apart
  where
    apart_nil : (entries : List (Entry Content)) → Apart entries → Apart (entries ++ [])
    apart_nil [] apart = tt
    apart_nil (entry ∷ entries) apart =
        (all_append (λ other. other.key ≡ entry.key → ⊥) entries [] apart.0 tt, apart_nil entries apart.1)

wanted_apart : (marks : List Marker) (whole part : List (Entry Content)) → Apart (wanted_writes marks whole part)
unfolding wanted_writes
wanted_apart marks whole [] = tt
wanted_apart marks whole (write ∷ older) =
    wanted_apart_by marks whole older write (is_wanted marks whole (length older + 1) write) refl (wanted_apart marks whole older)

-- updates of one type that are of different keys
key_parts : (kind : Kind) (one other : Entry Content) → one.key.kind ≡ kind → other.key.kind ≡ kind → other.key.hash ≡ one.key.hash → other.key ≡ one.key
key_parts kind one other here there hash =
    ap (λ (found : Kind). record other.key { kind = found }) (there ∙ sym here)
    ∙ ap (λ (found : List ℕ). record one.key { hash = found }) hash

other_updates_by : (kind : Kind) (entry other : Entry Content) (updates : List Update) (same : Bool) → same_kind other.key.kind kind ≡ same
    → entry.key.kind ≡ kind → (other.key ≡ entry.key → ⊥) → HasNoUpdate entry.key.hash updates
    → HasNoUpdate entry.key.hash (cond same (update_of other ∷ []) [] ++ updates)
other_updates_by kind entry other updates true is here differs none =
    ((λ hash. differs (key_parts kind entry other here (same_kind-true other.key.kind kind is) hash)), none)
other_updates_by kind entry other updates false is here differs none = none

other_updates : (kind : Kind) (entry : Entry Content) (entries : List (Entry Content)) → entry.key.kind ≡ kind
    → AllByRecursion (λ other. other.key ≡ entry.key → ⊥) entries → HasNoUpdate entry.key.hash (updates_in kind entries)
unfolding updates_in
other_updates kind entry [] here apart = tt
other_updates kind entry (other ∷ entries) here apart =
    other_updates_by kind entry other (updates_in kind entries) (same_kind other.key.kind kind) refl here apart.0
    (other_updates kind entry entries here apart.1)

distinct_by : (kind : Kind) (entry : Entry Content) (entries : List (Entry Content)) (same : Bool) → same_kind entry.key.kind kind ≡ same
    → AllByRecursion (λ other. other.key ≡ entry.key → ⊥) entries → AreOfDistinctKeys (updates_in kind entries)
    → AreOfDistinctKeys (cond same (update_of entry ∷ []) [] ++ updates_in kind entries)
distinct_by kind entry entries true is apart distinct = (other_updates kind entry entries (same_kind-true entry.key.kind kind is) apart, distinct)
distinct_by kind entry entries false is apart distinct = distinct

apart_distinct : (kind : Kind) (entries : List (Entry Content)) → Apart entries → AreOfDistinctKeys (updates_in kind entries)
unfolding updates_in
apart_distinct kind [] apart = tt
apart_distinct kind (entry ∷ entries) apart =
    distinct_by kind entry entries (same_kind entry.key.kind kind) refl apart.0 (apart_distinct kind entries apart.1)

-- the updates of each reply are of different keys
accepted_distinct : (is_invalid : Entry Content → Bool) (history : List (Entry Content)) (call : Call Content) → IsOfDistinctKeys (verdict_on is_invalid history call)
accepted_distinct is_invalid history (Commit entries) = tt
accepted_distinct is_invalid history (AskUpdates marks) = λ kind.
    apart_distinct kind (take MAX_UPDATES (wanted_writes marks history history))
    (apart_take MAX_UPDATES (wanted_writes marks history history) (wanted_apart marks history history))

pub reply_distinct : (is_invalid : Entry Content → Bool) (birthday : List ℕ) (history : List (Entry Content)) (request : Request Content)
    → IsOfDistinctKeys (reply_to is_invalid birthday history request).verdict
unfolding reply_to
reply_distinct is_invalid birthday history request = by (is_foreign birthday request.birthday)
  where
    by : (foreign : Bool) → IsOfDistinctKeys (cond foreign (Refused NOT_MY_BIRTHDAY) (verdict_on is_invalid history request.call))
    by true = tt
    by false = accepted_distinct is_invalid history request.call

-- what is said of the entry of an answer is said of its acknowledgement
ack_said_by : (Says : Saying) (kind : Kind) (client version : ℕ) (outcomes : List EventOutcome) (entry : Entry Content) (same : Bool)
    → same_kind entry.key.kind kind ≡ same → IsSaidOfEntry Says entry → IsSentBy outcomes client version
    → AllByRecursion (IsSaidOfAck Says kind client outcomes) (cond same (ack_of entry version ∷ []) [])
ack_said_by Says kind client version outcomes entry true is said sent =
    ((subst (λ (other : Kind). Says other entry.content.number entry.content.value) (same_kind-true entry.key.kind kind is) said, sent), tt)
ack_said_by Says kind client version outcomes entry false is said sent = tt

ack_said : (Says : Saying) (kind : Kind) (client : ℕ) (outcomes : List EventOutcome) (entry : Entry Content) (answer : Answer)
    → IsSaidOfEntry Says entry → ((version : ℕ) → answer ≡ Success version → IsSentBy outcomes client version)
    → AllByRecursion (IsSaidOfAck Says kind client outcomes) (ack_for kind entry answer)
ack_said Says kind client outcomes entry (Success version) said sent =
    ack_said_by Says kind client version outcomes entry (same_kind entry.key.kind kind) refl said (sent version refl)
ack_said Says kind client outcomes entry Conflict said sent = tt
ack_said Says kind client outcomes entry Invalid said sent = tt
ack_said Says kind client outcomes entry OverQuota said sent = tt

acks_said : (Says : Saying) (kind : Kind) (client : ℕ) (outcomes : List EventOutcome) (entries : List (Entry Content)) (answers : List Answer)
    → AllByRecursion (IsSaidOfEntry Says) entries
    → ((place version : ℕ) → slice_get answers place ≡ Some (Success version) → IsSentBy outcomes client version)
    → AllByRecursion (IsSaidOfAck Says kind client outcomes) (acks_of kind entries answers)
unfolding acks_of
acks_said Says kind client outcomes [] answers said sent = tt
acks_said Says kind client outcomes (entry ∷ entries) [] said sent = tt
acks_said Says kind client outcomes (entry ∷ entries) (answer ∷ answers) said sent =
    all_append (IsSaidOfAck Says kind client outcomes) (ack_for kind entry answer) (acks_of kind entries answers)
    (ack_said Says kind client outcomes entry answer said.0 (λ version is. sent 0 version (ap Some is)))
    (acks_said Says kind client outcomes entries answers said.1 (λ place version is. sent (suc place) version is))

letter_said : (Says : Saying) (kind : Kind) (client : ℕ) (outcomes : List EventOutcome) (acks : List Ack)
    → AllByRecursion (IsSaidOfAck Says kind client outcomes) acks → IfSome (letter_of acks) (IsSaidOfTask Says kind client outcomes)
letter_said Says kind client outcomes [] all = tt
letter_said Says kind client outcomes (ack ∷ acks) all = all

batch_said : (Says : Saying) (kind : Kind) (client : ℕ) (outcomes : List EventOutcome) (asked : Option ℕ) (updates : Updates Content)
    → AreOfDistinctKeys (updates_in kind updates.entries) → IfSome (batch_letter kind asked updates) (IsSaidOfTask Says kind client outcomes)
batch_said Says kind client outcomes None updates distinct = tt
batch_said Says kind client outcomes (Some asked) updates distinct = distinct

-- what a reply says of each type
reply_said : (Says : Saying) (kind : Kind) (client : ℕ) (outcomes : List EventOutcome) (call : Call Content) (verdict : Verdict Content)
    → IsSaidOfCall Says call → IsOfDistinctKeys verdict
    → ((place version : ℕ) → answer_in verdict place ≡ Some (Success version) → IsSentBy outcomes client version)
    → IfSome (letter_in kind call verdict) (IsSaidOfTask Says kind client outcomes)
reply_said Says kind client outcomes (Commit entries) (Committed answers) said distinct sent =
    letter_said Says kind client outcomes (acks_of kind entries answers) (acks_said Says kind client outcomes entries answers said sent)
reply_said Says kind client outcomes (Commit entries) (Updated updates) said distinct sent = tt
reply_said Says kind client outcomes (Commit entries) (Refused code) said distinct sent = tt
reply_said Says kind client outcomes (AskUpdates marks) (Committed answers) said distinct sent = tt
reply_said Says kind client outcomes (AskUpdates marks) (Updated updates) said distinct sent =
    batch_said Says kind client outcomes (mark_of kind marks) updates (distinct kind)
reply_said Says kind client outcomes (AskUpdates marks) (Refused code) said distinct sent = tt

-- a reply reaches the client that made its request
told_said : (Says : Saying) (number : ℕ) (outcomes : List EventOutcome) (request : Request Content) (reply : Reply Content) (client : Client)
    → ((kind : Kind) → IfSome (letter_in kind request.call reply.verdict) (IsSaidOfTask Says kind number outcomes))
    → IsSaidOfClient Says number outcomes client → IsSaidOfClient Says number outcomes (told request.call reply client)
told_said Says number outcomes request reply client letters said = record { held = said.held; sides = sides; awaits = tt }
  where
    told_side : (kind : Kind) → IsSaidOfSide Says number outcomes kind (side_told kind request.call reply.verdict (side_of client kind))
    told_side kind = record { mailbox = (said.sides kind).mailbox; pending = (said.sides kind).pending; letter = letters kind }

    sides : (kind : Kind) → IsSaidOfSide Says number outcomes kind (side_of (told request.call reply client) kind)
    sides Nigori = told_side Nigori
    sides Preference = told_side Preference
    sides Password = told_side Password

pub answer_effect-said : (Says : ℕ → Saying) (number : ℕ) (outcomes : List EventOutcome) (event delivery : ℕ) (request : Request Content) (reply : Reply Content) (client : Client)
    → outcome_at outcomes event ≡ Requested number request → outcome_at outcomes delivery ≡ Delivered event reply
    → IsSaidOfCall (Says number) request.call → IsOfDistinctKeys reply.verdict
    → IsSaidOfClient (Says number) number outcomes client → IsSaidOfEffect Says number outcomes (answer_effect request reply client)
unfolding answer_effect
answer_effect-said Says number outcomes event delivery request reply client made delivered call distinct said =
    done_said Says number outcomes _ (by (is_other_store client.birthday reply.birthday || not (is_fit request.call reply.verdict)))
  where
    sent : (place version : ℕ) → answer_in reply.verdict place ≡ Some (Success version) → IsSentBy outcomes number version
    sent place version is = record {
      event = event;
      request = request;
      made = made;
      place = place;
      delivery = delivery;
      stores = subst (λ (outcome : EventOutcome). Stores outcome event place version) (sym delivered) (refl, is);
    }

    by : (ended : Bool) → IsSaidOfClient (Says number) number outcomes (cond ended (record client { outstanding = None }) (told request.call reply client))
    by true = alike-said (Says number) number outcomes client _ refl refl refl said.held tt said.sides
    by false = told_said (Says number) number outcomes request reply client
        (λ kind. reply_said (Says number) kind number outcomes request.call reply.verdict call distinct sent) said
