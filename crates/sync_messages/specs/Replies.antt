-- Messages from a server.
use Rattle.std.specs.Prelude.{◌≡◌, ℕ, ◌^◌, nat_le, nat_lt, if◌then◌else◌, List, [], ◌∷◌, Option, None, Result}
use Rattle.message_fields.specs.declared.field.Known.{Known}
use Rattle.message_fields.specs.declared.message.Message.{Message}
use Rattle.message_fields.specs.declared.fault.MessageFault.{MessageFault}
use Rattle.message_fields.specs.declared.fault.MessageReason.TheVariants.{Range}
use Rattle.message_fields.specs.Fields.{whole_of}
use Rattle.message_fields.specs.Readings.{IsReading}
use Rattle.message_fields.specs.Tables.{bytes, varint, group}
use Rattle.message_fields.specs.Lookups.{bytes_in_field, number_or, parts_of, groups_of, has}
use Rattle.message_fields.specs.Faults.{first_fault, wire_fault, wrong_kind, missing, fault_of, said_unless}
use Rattle.sync_messages.specs.declared.reply.ReplyKind.{ReplyKind}
use Rattle.sync_messages.specs.declared.reply.ReplyKind.TheVariants as kinds
use Rattle.sync_messages.specs.declared.message.Entity.{Entity}
use Rattle.sync_messages.specs.declared.message.EntryAnswer.{EntryAnswer}
use Rattle.sync_messages.specs.declared.message.Marker.{Marker}
use Rattle.sync_messages.specs.declared.message.Reply.{Reply}
use Rattle.sync_messages.specs.declared.message.Reply.TheVariants.{Committed, Updates, Refused}
use Rattle.sync_messages.specs.declared.message.FromServer.{FromServer}
use Rattle.sync_messages.specs.Entities.{AreEntitiesIn}
use Rattle.sync_messages.specs.Markers.{AreMarkersIn}
use Rattle.sync_messages.specs.Answers.{AreAnswersIn}

-- the fields of a message from a server: answers to a commit, updates, an error code, and the server's birthday
abbrev pub from_fields : List Known
from_fields = bytes 1 ∷ bytes 2 ∷ varint 4 ∷ bytes 6 ∷ []

-- the fields of the answers to a commit: a group for each entry
abbrev pub committed_fields : List Known
committed_fields = group 1 ∷ []

-- the fields of updates: entities, how many are left, and markers
abbrev pub updates_fields : List Known
updates_fields = bytes 1 ∷ varint 4 ∷ bytes 5 ∷ []

-- the greatest error code
abbrev pub LAST_CODE : ℕ
LAST_CODE = 2147483647

-- the error code of a message; 0 where it has none
abbrev pub code_of : Message → ℕ
code_of own = number_or 0 4 own.fields

-- what a message holds: an error code comes before answers to a commit, and those before updates
abbrev pub reply_kind : Message → ReplyKind
reply_kind own =
    if nat_lt 0 (code_of own) then kinds.Refused else if has 1 own.fields then kinds.Committed
    else if has 2 own.fields then kinds.Updates else kinds.Nothing

-- an error code that is too great
abbrev pub code_fault : Message → Option MessageFault
code_fault own = if nat_le (code_of own) LAST_CODE then None else fault_of 4 (Range 4) own

-- an error code; 0 in the place of one that is too great, which is a fault
abbrev pub code_or_zero : ℕ → ℕ
code_or_zero code = if nat_le code LAST_CODE then code else 0

-- answers to a commit, and what is at fault in them
pub record IsCommitted (input : List ℕ) (own : Message) (fault : Option MessageFault) (reply : Reply) : Type 0 where
  pub message : Message
  pub is_reading : IsReading committed_fields input (parts_of 1 own.fields) message
  pub answers_fault : Option MessageFault
  pub answers : List EntryAnswer
  pub are_answers : AreAnswersIn input (groups_of 1 message.fields) answers_fault answers
  pub is_fault : fault ≡ first_fault (answers_fault ∷ wire_fault message ∷ wrong_kind committed_fields message ∷ [])
  pub is_reply : reply ≡ Committed answers

-- a count of what is left that is negative
abbrev pub remaining_fault : Message → Option MessageFault
remaining_fault updates = if nat_lt (number_or 0 4 updates.fields) (2 ^ 63) then None else fault_of 4 (Range 4) updates

-- updates, and what is at fault in them
pub record AreUpdates (input : List ℕ) (own : Message) (fault : Option MessageFault) (reply : Reply) : Type 0 where
  pub message : Message
  pub is_reading : IsReading updates_fields input (parts_of 2 own.fields) message
  pub entries_fault : Option MessageFault
  pub entries : List Entity
  pub are_entries : AreEntitiesIn input (parts_of 1 message.fields) entries_fault entries
  pub markers_fault : Option MessageFault
  pub marks : List Marker
  pub are_markers : AreMarkersIn input (parts_of 5 message.fields) markers_fault marks
  pub is_fault : fault ≡ first_fault (entries_fault ∷ markers_fault ∷ wire_fault message
      ∷ wrong_kind updates_fields message ∷ remaining_fault message ∷ [])
  pub is_reply : reply ≡ Updates (record { entries = entries; remaining = number_or 0 4 message.fields; marks = marks })

-- What a message holds, and what is at fault in it; beside an error code nothing else is looked at. Where it
-- holds nothing, which is a fault, the code is 0.
abbrev pub IsReply : List ℕ → Message → ReplyKind → Option MessageFault → Reply → Type 0
IsReply input own kinds.Refused fault reply = (fault ≡ code_fault own) × (reply ≡ Refused (code_or_zero (code_of own)))
IsReply input own kinds.Committed fault reply = IsCommitted input own fault reply
IsReply input own kinds.Updates fault reply = AreUpdates input own fault reply
IsReply input own kinds.Nothing fault reply = (fault ≡ missing 1 own) × (reply ≡ Refused 0)

-- what is at fault in a message from a server, where this is at fault in what it holds
abbrev pub from_fault : Message → Option MessageFault → Option MessageFault
from_fault own fault = first_fault (fault ∷ wire_fault own ∷ wrong_kind from_fields own ∷ [])

-- what these bytes say as a message from a server
pub record SaysFrom (input : List ℕ) (said : Result FromServer MessageFault) : Type 0 where
  pub own : Message
  pub is_own : IsReading from_fields input (whole_of input ∷ []) own
  pub fault : Option MessageFault
  pub reply : Reply
  pub is_reply : IsReply input own (reply_kind own) fault reply
  pub is_said : said ≡ said_unless (from_fault own fault)
      (record { birthday = bytes_in_field input 6 own.fields; reply = reply })
