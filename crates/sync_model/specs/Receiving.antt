-- What a client makes of a reply: letters, which are posted to mailboxes, and turns that apply them.
use Rattle.std.specs.Prelude.{ℕ, Bool, true, false, ◌||◌, ◌==◌, not, if◌then◌else◌, List, [], ◌∷◌, ◌++◌, length, Option, Some, None, unwrap_or}
use Rattle.std.specs.Option.{option_or}
use Rattle.client_tags.specs.declared.Kind.{Kind}
use Rattle.client_tags.specs.declared.Kind.TheVariants.{Nigori, Preference, Password}
use Rattle.sync_model.specs.declared.event.EventOutcome.TheVariants.{Done}
use Rattle.sync_model.specs.declared.message.Ack.{Ack}
use Rattle.sync_model.specs.declared.message.Answer.{Answer}
use Rattle.sync_model.specs.declared.message.Answer.TheVariants.{Success, Conflict, Invalid, OverQuota}
use Rattle.sync_model.specs.declared.message.Batch.{Batch}
use Rattle.sync_model.specs.declared.message.Call.{Call}
use Rattle.sync_model.specs.declared.message.Call.TheVariants.{Commit, Updates as AskUpdates}
use Rattle.sync_model.specs.declared.message.Content.{Content}
use Rattle.sync_model.specs.declared.message.Entry.{Entry}
use Rattle.sync_model.specs.declared.message.Reply.{Reply}
use Rattle.sync_model.specs.declared.message.Request.{Request}
use Rattle.sync_model.specs.declared.message.Task.{Task}
use Rattle.sync_model.specs.declared.message.Task.TheVariants.{Batch as Updating, Acks}
use Rattle.sync_model.specs.declared.message.Update.{Update}
use Rattle.sync_model.specs.declared.message.Updates.{Updates}
use Rattle.sync_model.specs.declared.message.Verdict.{Verdict}
use Rattle.sync_model.specs.declared.message.Verdict.TheVariants.{Committed, Updated}
use Rattle.sync_model.specs.Values.{same_kind}
use Rattle.sync_model.specs.Settings.{Setting, decided_by}
use Rattle.sync_model.specs.Servers.{mark_of, is_foreign}
use Rattle.sync_model.specs.Sides.{Side, after_task, task_notes}
use Rattle.sync_model.specs.Clients.{Client, Effect, side_of, with_side, plain_effect, opens, batch_mailed}

-- the server's word on an entry that it stored
abbrev pub ack_of : Entry Content → ℕ → Ack
ack_of entry version = record {
  hash = entry.key.hash;
  version = version;
  value = entry.content.value;
  number = entry.content.number;
  lock = entry.content.lock;
}

-- the acknowledgement that an answer gives to an entry of a type, if any
abbrev pub ack_for : Kind → Entry Content → Answer → List Ack
ack_for kind entry (Success version) = if same_kind entry.key.kind kind then ack_of entry version ∷ [] else []
ack_for kind entry Conflict = []
ack_for kind entry Invalid = []
ack_for kind entry OverQuota = []

-- the acknowledgements of a type in the answers to a commit
unfoldable pub acks_of : Kind → List (Entry Content) → List Answer → List Ack
acks_of kind [] answers = []
acks_of kind (entry ∷ entries) [] = []
acks_of kind (entry ∷ entries) (answer ∷ answers) = ack_for kind entry answer ++ acks_of kind entries answers

-- a letter of these acknowledgements, where there are any
abbrev pub letter_of : List Ack → Option Task
letter_of [] = None
letter_of (ack ∷ acks) = Some (Acks (ack ∷ acks))

-- a write in a reply as an update of its key
abbrev pub update_of : Entry Content → Update
update_of entry = record {
  hash = entry.key.hash;
  version = entry.version;
  value = entry.content.value;
  lock = entry.content.lock;
}

-- the updates of a type in a reply
unfoldable pub updates_in : Kind → List (Entry Content) → List Update
updates_in kind [] = []
updates_in kind (entry ∷ entries) =
    (if same_kind entry.key.kind kind then update_of entry ∷ [] else []) ++ updates_in kind entries

-- The batch of a type in a reply. Where the reply has no mark of the type, it has the one that was asked.
abbrev pub batch_of : Kind → ℕ → Updates Content → Batch
batch_of kind asked updates = record {
  updates = updates_in kind updates.entries;
  mark = unwrap_or (mark_of kind updates.marks) asked;
}

-- a letter of a type's batch, if the type was asked for
abbrev pub batch_letter : Kind → Option ℕ → Updates Content → Option Task
batch_letter kind None updates = None
batch_letter kind (Some asked) updates = Some (Updating (batch_of kind asked updates))

-- what a reply says of a type, if it says anything
abbrev pub letter_in : Kind → Call Content → Verdict Content → Option Task
letter_in kind (Commit entries) (Committed answers) = letter_of (acks_of kind entries answers)
letter_in kind (AskUpdates marks) (Updated updates) = batch_letter kind (mark_of kind marks) updates
letter_in kind _ _ = None

-- a reply answers a request: it is of the same kind, with an answer to each entry
abbrev pub is_fit : Call Content → Verdict Content → Bool
is_fit (Commit entries) (Committed answers) = length entries == length answers
is_fit (AskUpdates marks) (Updated updates) = true
is_fit _ _ = false

-- a reply is of another store than the one that the client knows
abbrev pub is_other_store : Option (List ℕ) → Option (List ℕ) → Bool
is_other_store None found = false
is_other_store (Some kept) found = is_foreign kept found

-- a side with what a reply says of its type
abbrev pub side_told : Kind → Call Content → Verdict Content → Side → Side
side_told kind call verdict side = record side { letter = letter_in kind call verdict }

-- A client that takes what a reply says: a letter for each type that it speaks of. It keeps the first birthday
-- that it is told.
abbrev pub told : Call Content → Reply Content → Client → Client
told call reply client = record client {
  nigori = side_told Nigori call reply.verdict client.nigori;
  preference = side_told Preference call reply.verdict client.preference;
  password = side_told Password call reply.verdict client.password;
  birthday = option_or client.birthday reply.birthday;
  outstanding = None;
}

-- a reply to the outstanding request: one of another store, or one that does not answer it, just ends it
abbrev pub answered_with : Request Content → Reply Content → Client → Client
answered_with request reply client =
    if is_other_store client.birthday reply.birthday || not (is_fit request.call reply.verdict)
    then record client { outstanding = None }
    else told request.call reply client

-- the reply to the outstanding request reaches the client
unfoldable pub answer_effect : Request Content → Reply Content → Client → Option Effect
answer_effect request reply client = Some (plain_effect (answered_with request reply client) Done)

-- A letter is posted: acknowledgements are mailed, and so is a batch that opens. One that does not waits for a
-- key, in place of an earlier one.
abbrev pub posted : Setting → Client → Kind → Side → Task → Client
posted setting client kind side (Acks acks) =
    with_side client kind (record side { mailbox = side.mailbox ++ Acks acks ∷ []; letter = None })
posted setting client kind side (Updating batch) =
    if opens setting client.bag batch then batch_mailed setting client kind (record side { letter = None }) batch
    else with_side client kind (record side { pending = Some batch; letter = None })

-- the letter of a side is posted
abbrev pub post_effect_at : Setting → Client → Kind → Side → Option Task → Option Effect
post_effect_at setting client kind side None = None
post_effect_at setting client kind side (Some task) = Some (plain_effect (posted setting client kind side task) Done)

-- a client hands a type what the last reply says of it
unfoldable pub post_effect : Setting → Kind → Client → Option Effect
post_effect setting kind client =
    post_effect_at setting client kind (side_of client kind) (side_of client kind).letter

-- the first task of the mailbox is applied
abbrev pub turn_effect_at : Setting → Client → Kind → Side → List Task → Option Effect
turn_effect_at setting client kind side [] = None
turn_effect_at setting client kind side (task ∷ tasks) = Some record {
  client = with_side client kind (after_task (decided_by setting kind) (record side { mailbox = tasks }) task);
  outcome = Done;
  kind = kind;
  notes = task_notes (decided_by setting kind) side.states task;
}

-- a client's processor of a type takes a turn
unfoldable pub turn_effect : Setting → Kind → Client → Option Effect
turn_effect setting kind client =
    turn_effect_at setting client kind (side_of client kind) (side_of client kind).mailbox
