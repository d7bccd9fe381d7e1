-- The canonical bytes of messages: known fields by ascending number, and what says nothing is left out.
use Rattle.std.specs.Prelude.{ℕ, Bool, true, false, List, [], ◌++◌, Option, Some, None}
use Rattle.std.specs.Int.{w64, cast_unsigned}
use Rattle.std.specs.List.{flat_map}
use Rattle.wire_format.specs.Spellings.{varint_field, bytes_field, group_field}
use Rattle.client_tags.specs.Hashes.{hash_text}
use Rattle.client_tags.specs.Kinds.{kind_number}
use Rattle.progress_marker.specs.Tokens.{token_of}
use Rattle.message_fields.specs.Written.{varint_unless_zero, bytes_unless_empty}
use Rattle.sync_specifics.specs.declared.specifics.Specifics.{Specifics}
use Rattle.sync_specifics.specs.Specifics.{specifics_bytes}
use Rattle.sync_messages.specs.declared.message.Commit.{Commit}
use Rattle.sync_messages.specs.declared.message.Entity.{Entity}
use Rattle.sync_messages.specs.declared.message.EntryAnswer.{EntryAnswer}
use Rattle.sync_messages.specs.declared.message.FromServer.{FromServer}
use Rattle.sync_messages.specs.declared.message.Marker.{Marker}
use Rattle.sync_messages.specs.declared.message.Reply.{Reply}
use Rattle.sync_messages.specs.declared.message.Reply.TheVariants as replies
use Rattle.sync_messages.specs.declared.message.Request.{Request}
use Rattle.sync_messages.specs.declared.message.Request.TheVariants as requests
use Rattle.sync_messages.specs.declared.message.ToServer.{ToServer}
use Rattle.sync_messages.specs.declared.message.Updates.{Updates}
use Rattle.sync_messages.specs.Answers.{outcome_number}

-- a field of bytes that may be there
abbrev pub bytes_if_some : ℕ → Option (List ℕ) → List ℕ
bytes_if_some number None = []
bytes_if_some number (Some content) = bytes_field number content

-- a flag that is left out where it is false
abbrev pub flag_if_true : ℕ → Bool → List ℕ
flag_if_true number false = []
flag_if_true number true = varint_field number 1

-- the field of an entity's specifics, if it has any
abbrev pub specifics_if_some : Option Specifics → List ℕ
specifics_if_some None = []
specifics_if_some (Some specifics) = bytes_field 21 (specifics_bytes specifics)

-- the field of an entity's hash, if it has one
abbrev pub hash_if_some : Option (List ℕ) → List ℕ
hash_if_some None = []
hash_if_some (Some hash) = bytes_field 23 (hash_text hash)

-- the bytes of an entity
abbrev pub entity_bytes : Entity → List ℕ
entity_bytes entity =
    bytes_unless_empty 1 entity.id ++ varint_unless_zero 4 (cast_unsigned w64 entity.version)
    ++ flag_if_true 18 entity.deleted ++ specifics_if_some entity.specifics ++ hash_if_some entity.hash

-- the fields of some entities, with this number
abbrev pub entities_bytes : ℕ → List Entity → List ℕ
entities_bytes number entities = flat_map (λ (entity : Entity). bytes_field number (entity_bytes entity)) entities

-- the bytes of a marker: its token is written also where it is that of mark 0
abbrev pub marker_bytes : Marker → List ℕ
marker_bytes marker = varint_field 1 (kind_number marker.kind) ++ bytes_field 2 (token_of marker.mark.version)

-- the fields of some markers, with this number
abbrev pub markers_bytes : ℕ → List Marker → List ℕ
markers_bytes number markers = flat_map (λ (marker : Marker). bytes_field number (marker_bytes marker)) markers

-- the bytes of a commit
abbrev pub commit_bytes : Commit → List ℕ
commit_bytes commit = entities_bytes 1 commit.entries ++ bytes_unless_empty 2 commit.guid

-- which request it is, and its message
abbrev pub request_bytes : Request → List ℕ
request_bytes (requests.Commit commit) = varint_field 3 1 ++ bytes_field 4 (commit_bytes commit)
request_bytes (requests.Updates updates) = varint_field 3 2 ++ bytes_field 5 (markers_bytes 6 updates.marks)

-- the canonical bytes of a message to a server
abbrev pub to_bytes : ToServer → List ℕ
to_bytes message = request_bytes message.request ++ bytes_if_some 7 message.birthday

-- the bytes of an answer
abbrev pub answer_bytes : EntryAnswer → List ℕ
answer_bytes answer =
    varint_field 2 (outcome_number answer.outcome) ++ bytes_unless_empty 3 answer.id
    ++ varint_unless_zero 6 (cast_unsigned w64 answer.version)

-- the groups of some answers
abbrev pub answers_bytes : List EntryAnswer → List ℕ
answers_bytes answers = flat_map (λ (answer : EntryAnswer). group_field 1 (answer_bytes answer)) answers

-- the bytes of updates
abbrev pub updates_bytes : Updates → List ℕ
updates_bytes updates =
    entities_bytes 1 updates.entries ++ varint_unless_zero 4 updates.remaining ++ markers_bytes 5 updates.marks

-- the field of what a message holds
abbrev pub reply_bytes : Reply → List ℕ
reply_bytes (replies.Committed answers) = bytes_field 1 (answers_bytes answers)
reply_bytes (replies.Updates updates) = bytes_field 2 (updates_bytes updates)
reply_bytes (replies.Refused code) = varint_unless_zero 4 code

-- the canonical bytes of a message from a server
abbrev pub from_bytes : FromServer → List ℕ
from_bytes message = reply_bytes message.reply ++ bytes_if_some 6 message.birthday
