-- Each extra in a message that bytes say is canonical.
use Rattle.std.proofs.Common.{◌≡◌, ℕ, List, [], ◌∷◌, Option, Some, None, map, sym, subst, ◌∙◌}
use Rattle.std.specs.List.{AllByRecursion}
use Rattle.message_fields.specs.declared.field.Part.{Part}
use Rattle.message_fields.specs.declared.fault.MessageFault.{MessageFault}
use Rattle.message_fields.specs.declared.message.Message.{Message}
use Rattle.message_fields.specs.Fields.{whole_of}
use Rattle.message_fields.specs.Lookups.{bytes_in_field, number_of, parts_of}
use Rattle.message_fields.specs.Faults.{wire_fault, wrong_kind, missing}
use Rattle.message_fields.proofs.FirstFaults.{none_told}
use Rattle.sync_specifics.specs.Specifics.{specifics_fault}
use Rattle.sync_specifics.specs.Extras.{HasCanonicalExtraIfSome}
use Rattle.sync_specifics.proofs.SaidExtras.{said, pieces_canonical}
use Rattle.sync_messages.specs.declared.entity.EntityFields.{EntityFields}
use Rattle.sync_messages.specs.declared.message.Entity.{Entity}
use Rattle.sync_messages.specs.declared.message.FromServer.{FromServer}
use Rattle.sync_messages.specs.declared.message.Reply.{Reply}
use Rattle.sync_messages.specs.declared.message.Request.{Request}
use Rattle.sync_messages.specs.declared.message.ToServer.{ToServer}
use Rattle.sync_messages.specs.declared.reply.ReplyKind.{ReplyKind}
use Rattle.sync_messages.specs.declared.reply.ReplyKind.TheVariants as reply_kinds
use Rattle.sync_messages.specs.declared.request.RequestKind.{RequestKind}
use Rattle.sync_messages.specs.declared.request.RequestKind.TheVariants as request_kinds
use Rattle.sync_messages.specs.Entities.{entity_fields, AreEntityFields, AreEntities, entity_fault, entity_of, AreEntitiesIn}
use Rattle.sync_messages.specs.Requests.{to_fields, commit_fields, named, kind_fault, IsRequest, to_fault}
use Rattle.sync_messages.specs.Replies.{from_fields, updates_fields, remaining_fault, reply_kind, IsReply, from_fault}
use Rattle.sync_messages.specs.Laws.{HaveCanonicalExtras, HasCanonicalRequest, HasCanonicalReply, SaidEntitiesAreCanonical, SaidRequestsAreCanonical, SaidRepliesAreCanonical}

-- an entity in which nothing is at fault
entity_canonical : (input : List ℕ) (part : Part) (all : EntityFields) → AreEntityFields input part all →
    entity_fault all ≡ None → HasCanonicalExtraIfSome (entity_of input all).specifics
entity_canonical input part all are right =
    let none = none_told (specifics_fault all.specifics ∷ wire_fault all.own ∷ wrong_kind entity_fields all.own ∷ []) right in
    pieces_canonical input (parts_of 21 all.own.fields) all.specifics are.specifics none.0

all_canonical : (input : List ℕ) (parts : List Part) (all : List EntityFields) → AreEntities input parts all →
    AllByRecursion (λ (fault : Option MessageFault). fault ≡ None) (map entity_fault all) → HaveCanonicalExtras (map (entity_of input) all)
all_canonical input [] [] are right = tt
all_canonical input (part ∷ parts) [] are right = absurd are
all_canonical input [] (fields ∷ all) are right = absurd are
all_canonical input (part ∷ parts) (fields ∷ all) are right =
    (entity_canonical input part fields are.0 right.0, all_canonical input parts all are.1 right.1)

-- entities in which nothing is at fault
entities_canonical : (input : List ℕ) (parts : List Part) (fault : Option MessageFault) (entities : List Entity) →
    AreEntitiesIn input parts fault entities → fault ≡ None → HaveCanonicalExtras entities
entities_canonical input parts fault entities are right =
    subst HaveCanonicalExtras (sym are.are_entities)
    (all_canonical input parts are.fields are.are_fields (none_told (map entity_fault are.fields) (sym are.is_fault ∙ right)))

-- a request in which nothing is at fault
request_canonical : (input : List ℕ) (own commit updates : Message) (kind : Option RequestKind) (fault : Option MessageFault) (request : Request) →
    IsRequest input own commit updates kind fault request → fault ≡ None → HasCanonicalRequest request
request_canonical input own commit updates None fault request is right = subst HasCanonicalRequest (sym is.1) tt
request_canonical input own commit updates (Some request_kinds.Commit) fault request is right =
    let none = none_told (is.entries_fault ∷ wrong_kind commit_fields commit ∷ missing 4 own ∷ []) (sym is.is_fault ∙ right) in
    subst HasCanonicalRequest (sym is.is_request)
    (entities_canonical input (parts_of 1 commit.fields) is.entries_fault is.entries is.are_entries none.0)
request_canonical input own commit updates (Some request_kinds.Updates) fault request is right =
    subst HasCanonicalRequest (sym is.is_request) tt

-- a reply in which nothing is at fault
reply_canonical : (input : List ℕ) (own : Message) (kind : ReplyKind) (fault : Option MessageFault) (reply : Reply) →
    IsReply input own kind fault reply → fault ≡ None → HasCanonicalReply reply
reply_canonical input own reply_kinds.Refused fault reply is right = subst HasCanonicalReply (sym is.1) tt
reply_canonical input own reply_kinds.Committed fault reply is right = subst HasCanonicalReply (sym is.is_reply) tt
reply_canonical input own reply_kinds.Updates fault reply is right =
    let none = none_told (is.entries_fault ∷ is.markers_fault ∷ wire_fault is.message ∷ wrong_kind updates_fields is.message
    ∷ remaining_fault is.message ∷ []) (sym is.is_fault ∙ right) in
    subst HasCanonicalReply (sym is.is_reply)
    (entities_canonical input (parts_of 1 is.message.fields) is.entries_fault is.entries is.are_entries none.0)
reply_canonical input own reply_kinds.Nothing fault reply is right = subst HasCanonicalReply (sym is.1) tt

pub said_entities : SaidEntitiesAreCanonical
said_entities bytes entity says =
    let is = said (entity_fault says.all) (entity_of bytes says.all) entity says.is_said in
    subst (λ (found : Entity). HasCanonicalExtraIfSome found.specifics) (sym is.1)
    (entity_canonical bytes (whole_of bytes) says.all says.are_fields is.0)

pub said_requests : SaidRequestsAreCanonical
said_requests bytes message says =
    let is = said (to_fault says.own says.commit says.updates says.fault)
    (record { birthday = bytes_in_field bytes 7 says.own.fields; request = says.request }) message says.is_said in
    let none = none_told (says.fault ∷ wire_fault says.commit ∷ wire_fault says.updates ∷ wire_fault says.own ∷ wrong_kind to_fields says.own
    ∷ kind_fault says.own (number_of 3 says.own.fields) ∷ missing 3 says.own ∷ []) is.0 in
    subst (λ (found : ToServer). HasCanonicalRequest found.request) (sym is.1)
    (request_canonical bytes says.own says.commit says.updates (named says.own) says.fault says.request says.is_request none.0)

pub said_replies : SaidRepliesAreCanonical
said_replies bytes message says =
    let is = said (from_fault says.own says.fault)
    (record { birthday = bytes_in_field bytes 6 says.own.fields; reply = says.reply }) message says.is_said in
    let none = none_told (says.fault ∷ wire_fault says.own ∷ wrong_kind from_fields says.own ∷ []) is.0 in
    subst (λ (found : FromServer). HasCanonicalReply found.reply) (sym is.1)
    (reply_canonical bytes says.own (reply_kind says.own) says.fault says.reply says.is_reply none.0)
