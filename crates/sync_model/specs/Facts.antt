-- What every event keeps of a world: that all that sides know, and all that is on its way to them, is true of
-- the server's history, and that nothing is missed.
use Rattle.std.specs.Prelude.{◌≡◌, ℕ, ◌<◌, ◌≤◌, ◌⊎◌, ⊤, max, List, [], ◌∷◌, length, Some, None, unwrap_or, IfSome}
use Rattle.std.specs.List.{AllByRecursion}
use Rattle.client_tags.specs.declared.Kind.{Kind}
use Rattle.sync_values.specs.declared.value.Value.{Value}
use Rattle.sync_values.specs.declared.value.Value.TheVariants.{Absent}
use Rattle.sync_model.specs.declared.event.EventOutcome.{EventOutcome}
use Rattle.sync_model.specs.declared.event.EventOutcome.TheVariants.{Requested, Delivered}
use Rattle.sync_model.specs.declared.message.Ack.{Ack}
use Rattle.sync_model.specs.declared.message.Batch.{Batch}
use Rattle.sync_model.specs.declared.message.Call.{Call}
use Rattle.sync_model.specs.declared.message.Call.TheVariants.{Commit, Updates as AskUpdates}
use Rattle.sync_model.specs.declared.message.Content.{Content}
use Rattle.sync_model.specs.declared.message.Entry.{Entry}
use Rattle.sync_model.specs.declared.message.Key.{Key}
use Rattle.sync_model.specs.declared.message.Reply.{Reply}
use Rattle.sync_model.specs.declared.message.Request.{Request}
use Rattle.sync_model.specs.declared.message.Task.{Task}
use Rattle.sync_model.specs.declared.message.Task.TheVariants.{Batch as Updating, Acks}
use Rattle.sync_model.specs.declared.message.Update.{Update}
use Rattle.sync_model.specs.declared.state.KeyState.{KeyState}
use Rattle.sync_model.specs.History.{last_version, write_at}
use Rattle.sync_model.specs.Servers.{mark_of}
use Rattle.sync_model.specs.Sides.{Side, state_at}
use Rattle.sync_model.specs.Clients.{Client, side_of}
use Rattle.sync_model.specs.Receiving.{letter_in}
use Rattle.sync_model.specs.Worlds.{World, client_at, outcome_at}

-- the key of a type and a hash
abbrev pub key_of : Kind → List ℕ → Key
key_of kind hash = record { kind = kind; hash = hash }

-- the write of a version is of this key, and has this value
pub record IsWriteOf (history : List (Entry Content)) (key : Key) (version : ℕ) (value : Value) : Type 0 where
  pub write : Entry Content
  pub is_write : write_at history version ≡ Some write
  pub has_key : write.key ≡ key
  pub has_value : write.content.value ≡ value

-- what is known of a key is a write of it, or nothing is known and there is no value
abbrev pub IsKnown : List (Entry Content) → Key → KeyState → Type 0
IsKnown history key state = ((state.known ≡ 0) × (state.base ≡ Absent)) ⊎ IsWriteOf history key state.known state.base

-- what a side knows of a key is so, shown if nothing is due, and no older than the last write that its mark has passed
pub record KeyFacts (history : List (Entry Content)) (key : Key) (mark : ℕ) (state : KeyState) : Type 0 where
  pub is_known : IsKnown history key state
  pub shown : state.due ≡ None → state.own ≡ state.base
  pub passed : last_version history key ≤ mark → last_version history key ≤ state.known

-- an update tells a write of its key
abbrev pub IsTrueUpdate : List (Entry Content) → Kind → Update → Type 0
IsTrueUpdate history kind update = IsWriteOf history (key_of kind update.hash) update.version update.value

-- an acknowledgement tells a write of its key
abbrev pub IsTrueAck : List (Entry Content) → Kind → Ack → Type 0
IsTrueAck history kind ack = IsWriteOf history (key_of kind ack.hash) ack.version ack.value

-- some updates have the write of a key with this version
abbrev pub HasUpdate : List Update → List ℕ → ℕ → Type 0
HasUpdate [] hash version = ⊥
HasUpdate (update ∷ updates) hash version =
    ((update.hash ≡ hash) × (update.version ≡ version)) ⊎ HasUpdate updates hash version

-- a batch has the last write of each key that is above a mark and not above its own, and all its updates are true
pub record IsWhole (history : List (Entry Content)) (kind : Kind) (from : ℕ) (batch : Batch) : Type 0 where
  pub bounded : batch.mark ≤ length history
  pub is_true : AllByRecursion (IsTrueUpdate history kind) batch.updates
  pub misses_none : (hash : List ℕ) → from < last_version history (key_of kind hash)
      → last_version history (key_of kind hash) ≤ batch.mark
      → HasUpdate batch.updates hash (last_version history (key_of kind hash))

-- a task for a side that has all writes up to a mark: a batch that is whole from there, or true acknowledgements
abbrev pub IsTrueTask : List (Entry Content) → Kind → ℕ → Task → Type 0
IsTrueTask history kind from (Updating batch) = IsWhole history kind from batch
IsTrueTask history kind from (Acks acks) = AllByRecursion (IsTrueAck history kind) acks

-- the mark of a side after a task
abbrev pub mark_after : ℕ → Task → ℕ
mark_after mark (Updating batch) = max mark batch.mark
mark_after mark (Acks acks) = mark

-- some tasks are each true from the mark that those before it reach, and all of them reach this one
abbrev pub AreChained : List (Entry Content) → Kind → ℕ → List Task → ℕ → Type 0
AreChained history kind mark [] reached = mark ≡ reached
AreChained history kind mark (task ∷ tasks) reached =
    IsTrueTask history kind mark task × AreChained history kind (mark_after mark task) tasks reached

-- a side: its marks are within the history, its keys are known up to its mark, and what is on its way to it misses nothing
pub record SideFacts (history : List (Entry Content)) (kind : Kind) (side : Side) : Type 0 where
  pub marked : side.mark ≤ length history
  pub reached : side.seen ≤ length history
  pub keys : (hash : List ℕ) → KeyFacts history (key_of kind hash) side.mark (state_at side.states hash)
  pub mailed : AreChained history kind side.mark side.mailbox side.seen
  pub waits : IfSome side.pending (IsWhole history kind side.seen)
  pub told : IfSome side.letter (IsTrueTask history kind side.seen)

-- the mark above which a call asks for the writes of a type
abbrev pub asked_mark : Kind → Call Content → ℕ
asked_mark kind (Commit entries) = 0
asked_mark kind (AskUpdates marks) = unwrap_or (mark_of kind marks) 0

-- what a reply to a call says of each type is true, and misses nothing above what was asked
abbrev pub IsTrueReply : List (Entry Content) → Call Content → Reply Content → Type 0
IsTrueReply history call reply =
    (kind : Kind) → IfSome (letter_in kind call reply.verdict) (IsTrueTask history kind (asked_mark kind call))

-- a request was made by an event, and a reply to it is true
pub record IsAnswered (history : List (Entry Content)) (outcomes : List EventOutcome) (event : ℕ) (reply : Reply Content) : Type 0 where
  pub client : ℕ
  pub request : Request Content
  pub made : outcome_at outcomes event ≡ Requested client request
  pub says : IsTrueReply history request.call reply

-- a request asks above no mark that the server has not reached, and a delivery gives a true reply
abbrev pub IsTrueOutcome : List (Entry Content) → List EventOutcome → EventOutcome → Type 0
IsTrueOutcome history outcomes (Requested client request) = (kind : Kind) → asked_mark kind request.call ≤ length history
IsTrueOutcome history outcomes (Delivered event reply) = IsAnswered history outcomes event reply
IsTrueOutcome history outcomes _ = ⊤

-- a client waits for the reply to a request that an event made, and that asks above no mark which it has not seen
pub record IsAwaiting (outcomes : List EventOutcome) (client : Client) (event : ℕ) : Type 0 where
  pub number : ℕ
  pub request : Request Content
  pub made : outcome_at outcomes event ≡ Requested number request
  pub asked : (kind : Kind) → asked_mark kind request.call ≤ (side_of client kind).seen

-- a client: what holds of its sides, and of the request that it waits for
pub record ClientFacts (history : List (Entry Content)) (outcomes : List EventOutcome) (client : Client) : Type 0 where
  pub sides : (kind : Kind) → SideFacts history kind (side_of client kind)
  pub awaits : IfSome client.outstanding (IsAwaiting outcomes client)

-- a world: what came of each event is true, and so is what each client knows and is told
pub record WorldFacts (world : World) : Type 0 where
  pub outcomes : (event : ℕ) → IsTrueOutcome world.history world.outcomes (outcome_at world.outcomes event)
  pub clients : (number : ℕ) → ClientFacts world.history world.outcomes (client_at world.clients number)
