-- What the server says to a message: the model's answer to the request that the message makes, told as a message.
use Rattle.std.specs.Prelude.{ℕ, Bool, false, List, [], ◌∷◌, ◌++◌, map, Option, Some, None}
use Rattle.std.specs.Fmt.{decimal}
use Rattle.std.specs.Int.{w64, cast_signed}
use Rattle.client_tags.specs.Kinds.{kind_number}
use Rattle.client_tags.specs.Hashes.{hash_text}
use Rattle.sync_specifics.specs.declared.specifics.Specifics.{Specifics}
use Rattle.sync_messages.specs.declared.message.Entity.{Entity}
use Rattle.sync_messages.specs.declared.message.EntryAnswer.{EntryAnswer}
use Rattle.sync_messages.specs.declared.message.FromServer.{FromServer}
use Rattle.sync_messages.specs.declared.message.Marker.{Marker}
use Rattle.sync_messages.specs.declared.message.Outcome.{Outcome}
use Rattle.sync_messages.specs.declared.message.Outcome.TheVariants as outcomes
use Rattle.sync_messages.specs.declared.message.Reply.{Reply}
use Rattle.sync_messages.specs.declared.message.Reply.TheVariants as replies
use Rattle.sync_messages.specs.declared.message.Request.{Request}
use Rattle.sync_messages.specs.declared.message.Request.TheVariants as requests
use Rattle.sync_messages.specs.declared.message.ToServer.{ToServer}
use Rattle.sync_messages.specs.declared.message.Updates.{Updates}
use Rattle.sync_model.specs.declared.message.Answer.{Answer}
use Rattle.sync_model.specs.declared.message.Answer.TheVariants.{Success, Conflict, Invalid, OverQuota}
use Rattle.sync_model.specs.declared.message.Call.{Call}
use Rattle.sync_model.specs.declared.message.Call.TheVariants as calls
use Rattle.sync_model.specs.declared.message.Entry.{Entry}
use Rattle.sync_model.specs.declared.message.Key.{Key}
use Rattle.sync_model.specs.declared.message.Marker.{Marker as ModelMarker}
use Rattle.sync_model.specs.declared.message.Reply.{Reply as ModelReply}
use Rattle.sync_model.specs.declared.message.Request.{Request as ModelRequest}
use Rattle.sync_model.specs.declared.message.Updates.{Updates as ModelUpdates}
use Rattle.sync_model.specs.declared.message.Verdict.{Verdict}
use Rattle.sync_model.specs.declared.message.Verdict.TheVariants as verdicts
use Rattle.sync_model.specs.History.{answers_to}
use Rattle.sync_model.specs.Servers.{reply_to, history_served}
use Rattle.replay_messages.specs.Entries.{is_empty, entry_in, is_invalid}

-- the name that the server gives an entity: its type's number in decimal, `|`, and the text of its hash
unfoldable pub id_of : Key → List ℕ
id_of key = decimal (kind_number key.kind) ++ 124 ∷ hash_text key.hash

-- what came of an entry that was not stored: no name, and version 0
abbrev pub told_refusal : Outcome → EntryAnswer
told_refusal outcome = record { outcome = outcome; id = []; version = cast_signed w64 0 }

-- an answer to an entry of this name: where it is stored, with the name and the version of its write
abbrev pub told_with : List ℕ → Answer → EntryAnswer
told_with id (Success version) = record { outcome = outcomes.Success; id = id; version = cast_signed w64 version }
told_with id Conflict = told_refusal outcomes.Conflict
told_with id Invalid = told_refusal outcomes.Invalid
told_with id OverQuota = told_refusal outcomes.OverQuota

-- an answer to an entry as a message has it
abbrev pub told_answer : Entry (Option Specifics) → Answer → EntryAnswer
told_answer entry answer = told_with (id_of entry.key) answer

-- the answers to some entries as a message has them
unfoldable pub told_answers : List (Entry (Option Specifics)) → List Answer → List EntryAnswer
told_answers [] answers = []
told_answers (entry ∷ entries) [] = []
told_answers (entry ∷ entries) (answer ∷ answers) = told_answer entry answer ∷ told_answers entries answers

-- what a server of this history answers to the entries of a commit
abbrev pub answers_told : List (Entry (Option Specifics)) → List (Entry (Option Specifics)) → List EntryAnswer
answers_told history entries = told_answers entries (answers_to is_invalid history entries)

-- a write is of a deletion: it holds a type alone
abbrev pub is_tombstone : Option Specifics → Bool
is_tombstone None = false
is_tombstone (Some specifics) = is_empty specifics

-- a write as an entity: with its name, its version, and what it holds
abbrev pub told_entity : Entry (Option Specifics) → Entity
told_entity entry = record {
  id = id_of entry.key;
  version = cast_signed w64 entry.version;
  deleted = is_tombstone entry.content;
  specifics = entry.content;
  hash = Some entry.key.hash;
}

-- a type's mark as a message has it
abbrev pub told_marker : ModelMarker → Marker
told_marker marker = record { kind = marker.kind; mark = record { version = marker.mark } }

-- the mark of a message's marker
abbrev pub marker_in : Marker → ModelMarker
marker_in marker = record { kind = marker.kind; mark = marker.mark.version }

-- what a message asks, in the model's words
abbrev pub call_in : Request → Call (Option Specifics)
call_in (requests.Commit commit) = calls.Commit (map entry_in commit.entries)
call_in (requests.Updates updates) = calls.Updates (map marker_in updates.marks)

-- a message to the server as the model's request
abbrev pub request_in : ToServer → ModelRequest (Option Specifics)
request_in message = record { birthday = message.birthday; call = call_in message.request }

-- the entries that a request asks to store
abbrev pub entries_of : Call (Option Specifics) → List (Entry (Option Specifics))
entries_of (calls.Commit entries) = entries
entries_of (calls.Updates marks) = []

-- what a get-updates is told as a message has it
abbrev pub told_updates : ModelUpdates (Option Specifics) → Updates
told_updates updates = record {
  entries = map told_entity updates.entries;
  remaining = updates.remaining;
  marks = map told_marker updates.marks;
}

-- what the server says to the entries of a commit, or to another request, as a message has it
abbrev pub told_verdict : List (Entry (Option Specifics)) → Verdict (Option Specifics) → Reply
told_verdict entries (verdicts.Committed answers) = replies.Committed (told_answers entries answers)
told_verdict entries (verdicts.Updated updates) = replies.Updates (told_updates updates)
told_verdict entries (verdicts.Refused code) = replies.Refused code

-- a reply to a request as a message
abbrev pub told_reply : ModelRequest (Option Specifics) → ModelReply (Option Specifics) → FromServer
told_reply request reply = record { birthday = reply.birthday; reply = told_verdict (entries_of request.call) reply.verdict }

-- the message with which a server of this birthday and history answers a message
unfoldable pub reply_for : List ℕ → List (Entry (Option Specifics)) → ToServer → FromServer
reply_for birthday history message =
    told_reply (request_in message) (reply_to is_invalid birthday history (request_in message))

-- the history that a message leaves
unfoldable pub history_for : List ℕ → List (Entry (Option Specifics)) → ToServer → List (Entry (Option Specifics))
history_for birthday history message = history_served is_invalid birthday history (request_in message)
