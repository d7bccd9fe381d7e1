-- Messages to a server.
use Rattle.std.specs.Prelude.{◌≡◌, ℕ, ◌==◌, if◌then◌else◌, List, [], ◌∷◌, Option, Some, None, Result}
use Rattle.message_fields.specs.declared.field.Known.{Known}
use Rattle.message_fields.specs.declared.message.Message.{Message}
use Rattle.message_fields.specs.declared.fault.MessageFault.{MessageFault}
use Rattle.message_fields.specs.declared.fault.MessageReason.TheVariants.{Range}
use Rattle.message_fields.specs.Fields.{whole_of}
use Rattle.message_fields.specs.Readings.{IsReading}
use Rattle.message_fields.specs.Tables.{bytes, varint}
use Rattle.message_fields.specs.Lookups.{bytes_of, bytes_in_field, number_of, parts_of}
use Rattle.message_fields.specs.Faults.{first_fault, wire_fault, wrong_kind, missing, fault_of, said_unless}
use Rattle.sync_messages.specs.declared.request.RequestKind.{RequestKind}
use Rattle.sync_messages.specs.declared.request.RequestKind.TheVariants as kinds
use Rattle.sync_messages.specs.declared.message.Entity.{Entity}
use Rattle.sync_messages.specs.declared.message.Marker.{Marker}
use Rattle.sync_messages.specs.declared.message.Request.{Request}
use Rattle.sync_messages.specs.declared.message.Request.TheVariants.{Commit, Updates}
use Rattle.sync_messages.specs.declared.message.ToServer.{ToServer}
use Rattle.sync_messages.specs.Entities.{AreEntitiesIn}
use Rattle.sync_messages.specs.Markers.{AreMarkersIn}

-- the fields of a message to a server: which request it has, a commit, a get-updates, and the server's birthday
abbrev pub to_fields : List Known
to_fields = varint 3 ∷ bytes 4 ∷ bytes 5 ∷ bytes 7 ∷ []

-- the fields of a commit: entries, and the name of the client's cache
abbrev pub commit_fields : List Known
commit_fields = bytes 1 ∷ bytes 2 ∷ []

-- the fields of a get-updates: markers
abbrev pub get_updates_fields : List Known
get_updates_fields = bytes 6 ∷ []

-- the request of a number, if it is that of one
abbrev pub request_kind : ℕ → Option RequestKind
request_kind number = if number == 1 then Some kinds.Commit else if number == 2 then Some kinds.Updates else None

-- the request that a message names
abbrev pub request_named : Option ℕ → Option RequestKind
request_named None = None
request_named (Some number) = request_kind number

-- the request that a message names
abbrev pub named : Message → Option RequestKind
named own = request_named (number_of 3 own.fields)

-- the number that names the request is that of none
abbrev pub kind_fault : Message → Option ℕ → Option MessageFault
kind_fault own None = None
kind_fault own (Some number) = elim (request_kind number) as (λ kind. Option MessageFault) [
  | None ↦ fault_of 3 (Range 3) own
  | Some kind ↦ None
]

-- a commit, and what is at fault in it
pub record IsCommit (input : List ℕ) (own commit : Message) (fault : Option MessageFault) (request : Request) : Type 0 where
  pub entries_fault : Option MessageFault
  pub entries : List Entity
  pub are_entries : AreEntitiesIn input (parts_of 1 commit.fields) entries_fault entries
  pub is_fault : fault ≡ first_fault (entries_fault ∷ wrong_kind commit_fields commit ∷ missing 4 own ∷ [])
  pub is_request : request ≡ Commit (record { guid = bytes_of input 2 commit.fields; entries = entries })

-- a get-updates, and what is at fault in it
pub record IsGetUpdates (input : List ℕ) (own updates : Message) (fault : Option MessageFault) (request : Request) : Type 0 where
  pub markers_fault : Option MessageFault
  pub marks : List Marker
  pub are_markers : AreMarkersIn input (parts_of 6 updates.fields) markers_fault marks
  pub is_fault : fault ≡ first_fault (markers_fault ∷ wrong_kind get_updates_fields updates ∷ missing 5 own ∷ [])
  pub is_request : request ≡ Updates (record { marks = marks })

-- the request that a message names, and what is at fault in it; where none is named, which is a fault, no marks
abbrev pub IsRequest : List ℕ → Message → Message → Message → Option RequestKind → Option MessageFault → Request → Type 0
IsRequest input own commit updates None fault request = (fault ≡ None) × (request ≡ Updates (record { marks = [] }))
IsRequest input own commit updates (Some kinds.Commit) fault request = IsCommit input own commit fault request
IsRequest input own commit updates (Some kinds.Updates) fault request = IsGetUpdates input own updates fault request

-- What is at fault in a message to a server, where this is at fault in the request that it names. The other
-- request is looked at as fields alone.
abbrev pub to_fault : Message → Message → Message → Option MessageFault → Option MessageFault
to_fault own commit updates fault =
    first_fault (fault ∷ wire_fault commit ∷ wire_fault updates ∷ wire_fault own ∷ wrong_kind to_fields own
    ∷ kind_fault own (number_of 3 own.fields) ∷ missing 3 own ∷ [])

-- what these bytes say as a message to a server
pub record SaysTo (input : List ℕ) (said : Result ToServer MessageFault) : Type 0 where
  pub own : Message
  pub commit : Message
  pub updates : Message
  pub is_own : IsReading to_fields input (whole_of input ∷ []) own
  pub is_commit : IsReading commit_fields input (parts_of 4 own.fields) commit
  pub is_updates : IsReading get_updates_fields input (parts_of 5 own.fields) updates
  pub fault : Option MessageFault
  pub request : Request
  pub is_request : IsRequest input own commit updates (named own) fault request
  pub is_said : said ≡ said_unless (to_fault own commit updates fault)
      (record { birthday = bytes_in_field input 7 own.fields; request = request })
