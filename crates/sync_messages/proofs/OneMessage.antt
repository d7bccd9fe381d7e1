-- Bytes say one message at most.
use Rattle.std.specs.Prelude.{Result}
use Rattle.std.proofs.Common.{◌≡◌, ℕ, List, [], ◌∷◌, Option, None, Some, refl, map, sym, ap, subst, ◌∙◌}
use Rattle.std.specs.List.{filter_map}
use Rattle.message_fields.specs.declared.field.Part.{Part}
use Rattle.message_fields.specs.declared.field.Known.{Known}
use Rattle.message_fields.specs.declared.message.Message.{Message}
use Rattle.message_fields.specs.declared.fault.MessageFault.{MessageFault}
use Rattle.message_fields.specs.Fields.{ArePartsOf, whole_of}
use Rattle.message_fields.specs.Lookups.{bytes_of, bytes_in_field, number_or, parts_of, groups_of}
use Rattle.message_fields.specs.Readings.{IsReading}
use Rattle.message_fields.specs.Faults.{first_fault, wire_fault, wrong_kind, missing, said_unless}
use Rattle.message_fields.proofs.LookupLemmas.{groups_within}
use Rattle.message_fields.proofs.MessageLemmas.{reading_within}
use Rattle.message_fields.proofs.OneMessage.{one_message}
use Rattle.sync_specifics.specs.declared.fields.SpecificsFields.{SpecificsFields}
use Rattle.sync_specifics.specs.Specifics.{AreSpecificsFields}
use Rattle.sync_specifics.proofs.OneThing.{whole_within, whole_same, readings_same, message_within, inner_same, all_same}
use Rattle.sync_messages.specs.declared.entity.EntityFields.{EntityFields}
use Rattle.sync_messages.specs.declared.message.Entity.{Entity}
use Rattle.sync_messages.specs.declared.message.EntryAnswer.{EntryAnswer}
use Rattle.sync_messages.specs.declared.message.FromServer.{FromServer}
use Rattle.sync_messages.specs.declared.message.Marker.{Marker}
use Rattle.sync_messages.specs.declared.message.Reply.{Reply}
use Rattle.sync_messages.specs.declared.message.Reply.TheVariants as replies
use Rattle.sync_messages.specs.declared.message.Request.{Request}
use Rattle.sync_messages.specs.declared.message.Request.TheVariants as requests
use Rattle.sync_messages.specs.declared.message.ToServer.{ToServer}
use Rattle.sync_messages.specs.declared.reply.ReplyKind.{ReplyKind}
use Rattle.sync_messages.specs.declared.reply.ReplyKind.TheVariants as reply_kinds
use Rattle.sync_messages.specs.declared.request.RequestKind.{RequestKind}
use Rattle.sync_messages.specs.declared.request.RequestKind.TheVariants as request_kinds
use Rattle.sync_messages.specs.Entities.{entity_fields, AreEntityFields, AreEntities, entity_fault, entities_fault, entity_of, AreEntitiesIn}
use Rattle.sync_messages.specs.Markers.{marker_fields, markers_fault, marker_of, AreMarkersIn}
use Rattle.sync_messages.specs.Answers.{answer_fields, answers_fault, answer_of, AreAnswersIn}
use Rattle.sync_messages.specs.Requests.{to_fields, commit_fields, get_updates_fields, named, IsCommit, IsGetUpdates, IsRequest, to_fault}
use Rattle.sync_messages.specs.Replies.{from_fields, committed_fields, updates_fields, reply_kind, IsCommitted, remaining_fault, AreUpdates, IsReply, from_fault}
use Rattle.sync_messages.specs.Laws.{SayOneEntity, SayOneRequest, SayOneReply}

-- two readings found the same fault, and the same value
abbrev Same : {V : Type 0} → Option MessageFault → Option MessageFault → V → V → Type 0
Same fault other value next = (fault ≡ other) × (value ≡ next)

-- the messages in the specifics of an entity that is read so
abbrev AreSpecifics : List ℕ → Message → SpecificsFields → Type 0
AreSpecifics input own all = AreSpecificsFields input (parts_of 21 own.fields) all

-- the messages in an entity
entity_same : (input : List ℕ) (part : Part) (a b : EntityFields) → ArePartsOf input (part ∷ []) → AreEntityFields input part a
    → AreEntityFields input part b → a ≡ b
entity_same input part a b are one two =
    let own = one_message entity_fields input (part ∷ []) a.own b.own are one.own two.own in
    let specifics = all_same input (parts_of 21 a.own.fields) a.specifics b.specifics
    (message_within entity_fields input (part ∷ []) a.own 21 one.own) one.specifics
    (subst (λ (message : Message). AreSpecifics input message b.specifics) (sym own) two.specifics) in
    ap (λ message. record a { own = message }) own ∙ ap (λ all. record b { specifics = all }) specifics

-- the messages in some entities
entities_same : (input : List ℕ) (parts : List Part) (a b : List EntityFields) → ArePartsOf input parts → AreEntities input parts a
    → AreEntities input parts b → a ≡ b
entities_same input [] [] [] are one two = refl
entities_same input [] [] (y ∷ b) are one two = absurd two
entities_same input [] (x ∷ a) b are one two = absurd one
entities_same input (part ∷ parts) [] b are one two = absurd one
entities_same input (part ∷ parts) (x ∷ a) [] are one two = absurd two
entities_same input (part ∷ parts) (x ∷ a) (y ∷ b) are one two =
    ap (λ first. first ∷ a) (entity_same input part x y (are.0, tt) one.0 two.0)
    ∙ ap (λ rest. y ∷ rest) (entities_same input parts a b are.1 one.1 two.1)

-- entities in some parts, and the first fault in them
entries_same : (input : List ℕ) (parts : List Part) (fault other : Option MessageFault) (a b : List Entity) → ArePartsOf input parts
    → AreEntitiesIn input parts fault a → AreEntitiesIn input parts other b → Same fault other a b
entries_same input parts fault other a b are one two =
    let fields = entities_same input parts one.fields two.fields are one.are_fields two.are_fields in (
      one.is_fault ∙ ap entities_fault fields ∙ sym two.is_fault,
      one.are_entities ∙ ap (map (entity_of input)) fields ∙ sym two.are_entities,
    )

-- markers in some parts, and the first fault in them
marks_same : (input : List ℕ) (parts : List Part) (fault other : Option MessageFault) (a b : List Marker) → ArePartsOf input parts
    → AreMarkersIn input parts fault a → AreMarkersIn input parts other b → Same fault other a b
marks_same input parts fault other a b are one two =
    let messages = readings_same marker_fields input parts one.messages two.messages are one.are_readings two.are_readings in (
      one.is_fault ∙ ap markers_fault messages ∙ sym two.is_fault,
      one.are_markers ∙ ap (filter_map (marker_of input)) messages ∙ sym two.are_markers,
    )

-- answers in some parts, and the first fault in them
answers_same : (input : List ℕ) (parts : List Part) (fault other : Option MessageFault) (a b : List EntryAnswer) → ArePartsOf input parts
    → AreAnswersIn input parts fault a → AreAnswersIn input parts other b → Same fault other a b
answers_same input parts fault other a b are one two =
    let messages = readings_same answer_fields input parts one.messages two.messages are one.are_readings two.are_readings in (
      one.is_fault ∙ ap answers_fault messages ∙ sym two.is_fault,
      one.are_answers ∙ ap (map (answer_of input)) messages ∙ sym two.are_answers,
    )

pub one_entity : SayOneEntity
one_entity input said other one two =
    let all = entity_same input (whole_of input) one.all two.all (whole_within input) one.are_fields two.are_fields in
    one.is_said ∙ ap (λ all. said_unless (entity_fault all) (entity_of input all)) all ∙ sym two.is_said

-- a commit
commit_same : (input : List ℕ) (own commit : Message) (fault other : Option MessageFault) (a b : Request)
    → ArePartsOf input (parts_of 1 commit.fields) → IsCommit input own commit fault a → IsCommit input own commit other b → Same fault other a b
commit_same input own commit fault other a b are one two =
    let entries = entries_same input (parts_of 1 commit.fields) one.entries_fault two.entries_fault one.entries two.entries are
    one.are_entries two.are_entries in (
      one.is_fault ∙ ap (λ told. first_fault (told ∷ wrong_kind commit_fields commit ∷ missing 4 own ∷ [])) entries.0 ∙ sym two.is_fault,
      one.is_request ∙ ap (λ list. requests.Commit (record { guid = bytes_of input 2 commit.fields; entries = list })) entries.1 ∙ sym two.is_request,
    )

-- a get-updates
get_updates_same : (input : List ℕ) (own updates : Message) (fault other : Option MessageFault) (a b : Request)
    → ArePartsOf input (parts_of 6 updates.fields) → IsGetUpdates input own updates fault a → IsGetUpdates input own updates other b
    → Same fault other a b
get_updates_same input own updates fault other a b are one two =
    let marks = marks_same input (parts_of 6 updates.fields) one.markers_fault two.markers_fault one.marks two.marks are
    one.are_markers two.are_markers in (
      one.is_fault ∙ ap (λ told. first_fault (told ∷ wrong_kind get_updates_fields updates ∷ missing 5 own ∷ [])) marks.0 ∙ sym two.is_fault,
      one.is_request ∙ ap (λ list. requests.Updates (record { marks = list })) marks.1 ∙ sym two.is_request,
    )

-- the request that a message names
request_same : (input : List ℕ) (own commit updates : Message) (kind : Option RequestKind) (fault other : Option MessageFault) (a b : Request)
    → ArePartsOf input (parts_of 1 commit.fields) → ArePartsOf input (parts_of 6 updates.fields)
    → IsRequest input own commit updates kind fault a → IsRequest input own commit updates kind other b → Same fault other a b
request_same input own commit updates None fault other a b entries marks one two = (one.0 ∙ sym two.0, one.1 ∙ sym two.1)
request_same input own commit updates (Some request_kinds.Commit) fault other a b entries marks one two =
    commit_same input own commit fault other a b entries one two
request_same input own commit updates (Some request_kinds.Updates) fault other a b entries marks one two =
    get_updates_same input own updates fault other a b marks one two

-- what is said of the parts of a message to a server
abbrev said_to : List ℕ → Message → Message → Message → Option MessageFault → Request → Result ToServer MessageFault
said_to input own commit updates fault request =
    said_unless (to_fault own commit updates fault) (record { birthday = bytes_in_field input 7 own.fields; request = request })

pub one_request : SayOneRequest
one_request input said other one two =
    let whole = whole_of input ∷ [] in
    let own = whole_same to_fields input one.own two.own one.is_own two.is_own in
    let commit = inner_same to_fields commit_fields input whole 4 one.own two.own one.commit two.commit own one.is_own one.is_commit two.is_commit in
    let updates = inner_same to_fields get_updates_fields input whole 5 one.own two.own one.updates two.updates own one.is_own one.is_updates
    two.is_updates in
    let moved = subst (λ (m : Message). IsRequest input m one.commit one.updates (named m) two.fault two.request) (sym own)
    (subst (λ (m : Message). IsRequest input two.own m one.updates (named two.own) two.fault two.request) (sym commit)
    (subst (λ (m : Message). IsRequest input two.own two.commit m (named two.own) two.fault two.request) (sym updates) two.is_request)) in
    let request = request_same input one.own one.commit one.updates (named one.own) one.fault two.fault one.request two.request
    (message_within commit_fields input (parts_of 4 one.own.fields) one.commit 1 one.is_commit)
    (message_within get_updates_fields input (parts_of 5 one.own.fields) one.updates 6 one.is_updates) one.is_request moved in
    one.is_said ∙ ap (λ m. said_to input m one.commit one.updates one.fault one.request) own
    ∙ ap (λ m. said_to input two.own m one.updates one.fault one.request) commit
    ∙ ap (λ m. said_to input two.own two.commit m one.fault one.request) updates
    ∙ ap (λ told. said_to input two.own two.commit two.updates told one.request) request.0
    ∙ ap (λ made. said_to input two.own two.commit two.updates two.fault made) request.1 ∙ sym two.is_said

-- the contents of groups stand within the input
group_parts_within : (known : List Known) (input : List ℕ) (parts : List Part) (message : Message) (number : ℕ)
    → IsReading known input parts message → ArePartsOf input (groups_of number message.fields)
group_parts_within known input parts message number reading =
    groups_within input number message.fields (reading_within known input parts message reading)

-- what is at fault in answers to a commit
abbrev committed_fault : Message → Option MessageFault → Option MessageFault
committed_fault message fault = first_fault (fault ∷ wire_fault message ∷ wrong_kind committed_fields message ∷ [])

-- the message of answers to a commit moved to an equal one
abbrev AreAnswersOf : List ℕ → Option MessageFault → List EntryAnswer → Message → Type 0
AreAnswersOf input fault answers message = AreAnswersIn input (groups_of 1 message.fields) fault answers

-- answers to a commit
committed_same : (input : List ℕ) (own : Message) (fault other : Option MessageFault) (a b : Reply)
    → ArePartsOf input (parts_of 1 own.fields) → IsCommitted input own fault a → IsCommitted input own other b → Same fault other a b
committed_same input own fault other a b are one two =
    let message = one_message committed_fields input (parts_of 1 own.fields) one.message two.message are one.is_reading two.is_reading in
    let answers = answers_same input (groups_of 1 one.message.fields) one.answers_fault two.answers_fault one.answers two.answers
    (group_parts_within committed_fields input (parts_of 1 own.fields) one.message 1 one.is_reading) one.are_answers
    (subst (AreAnswersOf input two.answers_fault two.answers) (sym message) two.are_answers) in (
      one.is_fault ∙ ap (λ told. committed_fault one.message told) answers.0 ∙ ap (λ m. committed_fault m two.answers_fault) message
          ∙ sym two.is_fault,
      one.is_reply ∙ ap (λ list. replies.Committed list) answers.1 ∙ sym two.is_reply,
    )

-- what is at fault in updates
abbrev fault_of_updates : Message → Option MessageFault → Option MessageFault → Option MessageFault
fault_of_updates message entries marks =
    first_fault (entries ∷ marks ∷ wire_fault message ∷ wrong_kind updates_fields message ∷ remaining_fault message ∷ [])

-- updates of these parts
abbrev made_updates : Message → List Entity → List Marker → Reply
made_updates message entries marks =
    replies.Updates (record { entries = entries; remaining = number_or 0 4 message.fields; marks = marks })

-- updates
updates_same : (input : List ℕ) (own : Message) (fault other : Option MessageFault) (a b : Reply)
    → ArePartsOf input (parts_of 2 own.fields) → AreUpdates input own fault a → AreUpdates input own other b → Same fault other a b
updates_same input own fault other a b are one two =
    let message = one_message updates_fields input (parts_of 2 own.fields) one.message two.message are one.is_reading two.is_reading in
    let within = λ (number : ℕ). message_within updates_fields input (parts_of 2 own.fields) one.message number one.is_reading in
    let entries = entries_same input (parts_of 1 one.message.fields) one.entries_fault two.entries_fault one.entries two.entries (within 1)
    one.are_entries
    (subst (λ (m : Message). AreEntitiesIn input (parts_of 1 m.fields) two.entries_fault two.entries) (sym message) two.are_entries) in
    let marks = marks_same input (parts_of 5 one.message.fields) one.markers_fault two.markers_fault one.marks two.marks (within 5)
    one.are_markers
    (subst (λ (m : Message). AreMarkersIn input (parts_of 5 m.fields) two.markers_fault two.marks) (sym message) two.are_markers) in (
      one.is_fault ∙ ap (λ told. fault_of_updates one.message told one.markers_fault) entries.0
          ∙ ap (λ told. fault_of_updates one.message two.entries_fault told) marks.0
          ∙ ap (λ m. fault_of_updates m two.entries_fault two.markers_fault) message ∙ sym two.is_fault,
      one.is_reply ∙ ap (λ list. made_updates one.message list one.marks) entries.1
          ∙ ap (λ list. made_updates one.message two.entries list) marks.1
          ∙ ap (λ m. made_updates m two.entries two.marks) message ∙ sym two.is_reply,
    )

-- what a message holds
reply_same : (input : List ℕ) (own : Message) (kind : ReplyKind) (fault other : Option MessageFault) (a b : Reply)
    → ArePartsOf input (parts_of 1 own.fields) → ArePartsOf input (parts_of 2 own.fields)
    → IsReply input own kind fault a → IsReply input own kind other b → Same fault other a b
reply_same input own reply_kinds.Refused fault other a b answers updates one two = (one.0 ∙ sym two.0, one.1 ∙ sym two.1)
reply_same input own reply_kinds.Committed fault other a b answers updates one two = committed_same input own fault other a b answers one two
reply_same input own reply_kinds.Updates fault other a b answers updates one two = updates_same input own fault other a b updates one two
reply_same input own reply_kinds.Nothing fault other a b answers updates one two = (one.0 ∙ sym two.0, one.1 ∙ sym two.1)

-- what is said of the parts of a message from a server
abbrev said_from : List ℕ → Message → Option MessageFault → Reply → Result FromServer MessageFault
said_from input own fault reply =
    said_unless (from_fault own fault) (record { birthday = bytes_in_field input 6 own.fields; reply = reply })

pub one_reply : SayOneReply
one_reply input said other one two =
    let whole = whole_of input ∷ [] in
    let own = whole_same from_fields input one.own two.own one.is_own two.is_own in
    let moved = subst (λ (m : Message). IsReply input m (reply_kind m) two.fault two.reply) (sym own) two.is_reply in
    let reply = reply_same input one.own (reply_kind one.own) one.fault two.fault one.reply two.reply
    (message_within from_fields input whole one.own 1 one.is_own) (message_within from_fields input whole one.own 2 one.is_own)
    one.is_reply moved in
    one.is_said ∙ ap (λ m. said_from input m one.fault one.reply) own
    ∙ ap (λ told. said_from input two.own told one.reply) reply.0
    ∙ ap (λ made. said_from input two.own two.fault made) reply.1 ∙ sym two.is_said
