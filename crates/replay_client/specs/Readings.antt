-- How a client reads a reply's message: what it says of each type, beside the request that it answers.
use Rattle.std.specs.Prelude.{ℕ, Bool, ◌==◌, nat_le, if◌then◌else◌, List, [], ◌∷◌, ◌++◌, length, map, Option, Some, None, unwrap_or, IfSome}
use Rattle.std.specs.Int.{w64, cast_unsigned}
use Rattle.client_tags.specs.declared.Kind.{Kind}
use Rattle.client_tags.specs.declared.Kind.TheVariants as kinds
use Rattle.sync_specifics.specs.declared.specifics.Specifics.{Specifics}
use Rattle.sync_specifics.specs.declared.specifics.Specifics.TheVariants as specifics
use Rattle.sync_values.specs.declared.value.Value.{Value}
use Rattle.sync_values.specs.declared.value.Value.TheVariants.{Absent, Preference}
use Rattle.sync_messages.specs.declared.message.Entity.{Entity}
use Rattle.sync_messages.specs.declared.message.EntryAnswer.{EntryAnswer}
use Rattle.sync_messages.specs.declared.message.Outcome.{Outcome}
use Rattle.sync_messages.specs.declared.message.Outcome.TheVariants as outcomes
use Rattle.sync_messages.specs.declared.message.Reply.{Reply}
use Rattle.sync_messages.specs.declared.message.Reply.TheVariants as replies
use Rattle.sync_messages.specs.declared.message.Updates.{Updates}
use Rattle.sync_model.specs.declared.message.Ack.{Ack}
use Rattle.sync_model.specs.declared.message.Call.{Call}
use Rattle.sync_model.specs.declared.message.Call.TheVariants as calls
use Rattle.sync_model.specs.declared.message.Content.{Content}
use Rattle.sync_model.specs.declared.message.Entry.{Entry}
use Rattle.sync_model.specs.declared.message.Marker.{Marker}
use Rattle.sync_model.specs.declared.message.Task.{Task}
use Rattle.sync_model.specs.declared.message.Task.TheVariants.{Batch as Updating}
use Rattle.sync_model.specs.declared.message.Update.{Update}
use Rattle.sync_model.specs.Receiving.{ack_of, letter_of}
use Rattle.sync_model.specs.Servers.{mark_of}
use Rattle.replay_messages.specs.Replies.{marker_in}
use Rattle.type_processor.specs.Fits.{LAST_VERSION}
use Rattle.replay_client.specs.declared.letters.Letters.{Letters}
use Rattle.replay_client.specs.Mail.{IsPlainTask, IsIdleTask}

-- the acknowledgement of an entry that was stored as the write of this version, if there is such a version
abbrev pub ack_at : Entry Content → ℕ → List Ack
ack_at entry version = if nat_le version LAST_VERSION then ack_of entry version ∷ [] else []

-- the acknowledgement of an entry of which this came, if it was stored
abbrev pub ack_by : Entry Content → ℕ → Outcome → List Ack
ack_by entry version outcomes.Success = ack_at entry version
ack_by entry version _ = []

-- the acknowledgement that an answer gives to an entry, if any
abbrev pub ack_read : Entry Content → EntryAnswer → List Ack
ack_read entry answer = ack_by entry (cast_unsigned w64 answer.version) answer.outcome

-- the acknowledgements in the answers to some entries
unfoldable pub acks_read : List (Entry Content) → List EntryAnswer → List Ack
acks_read [] answers = []
acks_read (entry ∷ entries) [] = []
acks_read (entry ∷ entries) (answer ∷ answers) = ack_read entry answer ++ acks_read entries answers

-- the value of a preference's entity that nothing seals, if it is one
abbrev pub value_read : Bool → Specifics → Option Value
value_read deleted (specifics.EmptyOf kinds.Preference) = Some Absent
value_read deleted (specifics.Preference preference) = Some (if deleted then Absent else Preference preference)
value_read deleted _ = None

-- the update of a key to a value, if there is one, and if there is such a version
abbrev pub update_at : List ℕ → ℕ → Option Value → List Update
update_at hash version None = []
update_at hash version (Some value) =
    if nat_le version LAST_VERSION then (record { hash = hash; version = version; value = value; lock = None }) ∷ [] else []

-- the update of an entity with this hash and these specifics, if it has both
abbrev pub update_by : Entity → Option (List ℕ) → Option Specifics → List Update
update_by entity (Some hash) (Some specifics) = update_at hash (cast_unsigned w64 entity.version) (value_read entity.deleted specifics)
update_by entity _ _ = []

-- the update that an entity says, if it is of a preference that nothing seals
abbrev pub update_read : Entity → List Update
update_read entity = update_by entity entity.hash entity.specifics

-- the updates that some entities say
unfoldable pub updates_read : List Entity → List Update
updates_read [] = []
updates_read (entity ∷ entities) = update_read entity ++ updates_read entities

-- A letter of a type's updates, if the type was asked for with this mark. Where these markers have no mark of the
-- type, it has the one that was asked.
abbrev pub batch_read : Kind → Option ℕ → List Update → List Marker → Option Task
batch_read kind None updates told = None
batch_read kind (Some asked) updates told =
    Some (Updating (record { updates = updates; mark = unwrap_or (mark_of kind told) asked }))

-- a letter for preferences alone
abbrev pub only_preferences : Option Task → Letters
only_preferences letter = record { nigori = None; preference = letter; password = None }

-- the letters of these updates of preferences, and of marks of all types
abbrev pub letters_with : List Marker → List Update → List Marker → Letters
letters_with asked updates told = record {
  nigori = batch_read kinds.Nigori (mark_of kinds.Nigori asked) [] told;
  preference = batch_read kinds.Preference (mark_of kinds.Preference asked) updates told;
  password = batch_read kinds.Password (mark_of kinds.Password asked) [] told;
}

-- the letters of what a get-updates with these marks is told
abbrev pub letters_of_updates : List Marker → Updates → Letters
letters_of_updates asked updates = letters_with asked (updates_read updates.entries) (map marker_in updates.marks)

-- what a reply says of each type, if it answers the call
unfoldable pub letters_read : Call Content → Reply → Option Letters
letters_read (calls.Commit entries) (replies.Committed answers) =
    if length entries == length answers then Some (only_preferences (letter_of (acks_read entries answers))) else None
letters_read (calls.Updates marks) (replies.Updates updates) = Some (letters_of_updates marks updates)
letters_read _ _ = None

-- nothing seals letters, and they speak of no keys but of preferences
pub record ArePlainLetters (letters : Letters) : Type 0 where
  pub nigori : IfSome letters.nigori IsIdleTask
  pub preference : IfSome letters.preference IsPlainTask
  pub password : IfSome letters.password IsIdleTask
