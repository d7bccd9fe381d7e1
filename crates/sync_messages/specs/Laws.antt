-- What holds of all messages here, by the definitions alone.
use Rattle.std.specs.Prelude.{ℕ, ◌^◌, ◌<◌, ◌≤◌, FitsSigned, List, Option, Some, None, Ok}
use Rattle.std.specs.Int.{w64}
use Rattle.std.specs.List.{AllByRecursion}
use Rattle.client_tags.specs.Hashes.{IsHash}
use Rattle.sync_specifics.specs.Extras.{HasCanonicalExtraIfSome}
use Rattle.sync_specifics.specs.Laws.{SayOneThing, FitMemory}
use Rattle.sync_messages.specs.declared.message.Entity.{Entity}
use Rattle.sync_messages.specs.declared.message.EntryAnswer.{EntryAnswer}
use Rattle.sync_messages.specs.declared.message.FromServer.{FromServer}
use Rattle.sync_messages.specs.declared.message.Marker.{Marker}
use Rattle.sync_messages.specs.declared.message.Reply.{Reply}
use Rattle.sync_messages.specs.declared.message.Reply.TheVariants as replies
use Rattle.sync_messages.specs.declared.message.Request.{Request}
use Rattle.sync_messages.specs.declared.message.Request.TheVariants as requests
use Rattle.sync_messages.specs.declared.message.ToServer.{ToServer}
use Rattle.sync_messages.specs.Entities.{SaysEntity}
use Rattle.sync_messages.specs.Requests.{SaysTo}
use Rattle.sync_messages.specs.Replies.{LAST_CODE, SaysFrom}
use Rattle.sync_messages.specs.Spellings.{entity_bytes, to_bytes, from_bytes}

-- bytes say one entity at most
abbrev pub SayOneEntity : Type 0
SayOneEntity = SayOneThing SaysEntity

-- bytes say one message to a server at most
abbrev pub SayOneRequest : Type 0
SayOneRequest = SayOneThing SaysTo

-- bytes say one message from a server at most
abbrev pub SayOneReply : Type 0
SayOneReply = SayOneThing SaysFrom

-- a hash, if there is one, has twenty bytes
abbrev pub IsHashIfSome : Option (List ℕ) → Type 0
IsHashIfSome None = Unit {0}
IsHashIfSome (Some hash) = IsHash hash

-- an entity's version fits its type, and its hash has twenty bytes
pub record FitsTypes (entity : Entity) : Type 0 where
  pub version : FitsSigned w64 entity.version
  pub hash : IsHashIfSome entity.hash

-- an entity that bytes can say: its fields fit their types, and its extra is canonical
pub record IsEntity (entity : Entity) : Type 0 where
  pub fits : FitsTypes entity
  pub extra : HasCanonicalExtraIfSome entity.specifics

-- each of these entities has a canonical extra
abbrev pub HaveCanonicalExtras : List Entity → Type 0
HaveCanonicalExtras entities = AllByRecursion (λ (entity : Entity). HasCanonicalExtraIfSome entity.specifics) entities

-- the entities of a request have canonical extras
abbrev pub HasCanonicalRequest : Request → Type 0
HasCanonicalRequest (requests.Commit commit) = HaveCanonicalExtras commit.entries
HasCanonicalRequest (requests.Updates updates) = Unit {0}

-- the entities of a reply have canonical extras
abbrev pub HasCanonicalReply : Reply → Type 0
HasCanonicalReply (replies.Committed answers) = Unit {0}
HasCanonicalReply (replies.Updates updates) = HaveCanonicalExtras updates.entries
HasCanonicalReply (replies.Refused code) = Unit {0}

-- a marker whose version fits its type
abbrev pub IsMarker : Marker → Type 0
IsMarker marker = marker.mark.version < 2 ^ 64

-- an answer whose version fits its type
abbrev pub IsAnswer : EntryAnswer → Type 0
IsAnswer answer = FitsSigned w64 answer.version

-- a request that bytes can say: its entities or its markers fit their types
abbrev pub IsSayableRequest : Request → Type 0
IsSayableRequest (requests.Commit commit) = AllByRecursion IsEntity commit.entries
IsSayableRequest (requests.Updates updates) = AllByRecursion IsMarker updates.marks

-- a reply that bytes can say: a count of what is left that an i64 can be, and an error code from 1 to the greatest
abbrev pub IsSayableReply : Reply → Type 0
IsSayableReply (replies.Committed answers) = AllByRecursion IsAnswer answers
IsSayableReply (replies.Updates updates) =
    AllByRecursion IsEntity updates.entries × (updates.remaining < 2 ^ 63) × AllByRecursion IsMarker updates.marks
IsSayableReply (replies.Refused code) = (1 ≤ code) × (code ≤ LAST_CODE)

-- a message that bytes can say
abbrev pub IsSayable : FromServer → Type 0
IsSayable message = IsSayableReply message.reply

-- the extra of an entity that bytes say is canonical
abbrev pub SaidEntitiesAreCanonical : Type 0
SaidEntitiesAreCanonical =
    (bytes : List ℕ) → (entity : Entity) → SaysEntity bytes (Ok entity) → HasCanonicalExtraIfSome entity.specifics

-- the extras in a request that bytes say are canonical
abbrev pub SaidRequestsAreCanonical : Type 0
SaidRequestsAreCanonical = (bytes : List ℕ) → (message : ToServer) → SaysTo bytes (Ok message) → HasCanonicalRequest message.request

-- the extras in a reply that bytes say are canonical
abbrev pub SaidRepliesAreCanonical : Type 0
SaidRepliesAreCanonical = (bytes : List ℕ) → (message : FromServer) → SaysFrom bytes (Ok message) → HasCanonicalReply message.reply

-- the bytes of an entity say it
abbrev pub EntitiesAreRead : Type 0
EntitiesAreRead =
    (entity : Entity) → IsEntity entity → FitMemory (entity_bytes entity) → SaysEntity (entity_bytes entity) (Ok entity)

-- the bytes of a message to a server say it
abbrev pub RequestsAreRead : Type 0
RequestsAreRead =
    (message : ToServer) → IsSayableRequest message.request → FitMemory (to_bytes message) → SaysTo (to_bytes message) (Ok message)

-- the bytes of a message from a server say it, where bytes can
abbrev pub RepliesAreRead : Type 0
RepliesAreRead =
    (message : FromServer) → IsSayable message → FitMemory (from_bytes message) → SaysFrom (from_bytes message) (Ok message)
