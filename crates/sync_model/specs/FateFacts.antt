-- What every event keeps of the edits of a client: their numbers, and what is on its way of one that still stands.
use Rattle.std.specs.Prelude.{◌≡◌, ℕ, suc, ◌<◌, ◌≤◌, ⊤, List, [], ◌∷◌, Some, None, IfSome}
use Rattle.std.specs.List.{AllByRecursion}
use Rattle.client_tags.specs.declared.Kind.{Kind}
use Rattle.sync_values.specs.declared.value.Value.{Value}
use Rattle.sync_model.specs.declared.event.EventOutcome.{EventOutcome}
use Rattle.sync_model.specs.declared.event.EventOutcome.TheVariants.{Requested, Delivered}
use Rattle.sync_model.specs.declared.message.Ack.{Ack}
use Rattle.sync_model.specs.declared.message.Call.{Call}
use Rattle.sync_model.specs.declared.message.Call.TheVariants.{Commit, Updates as AskUpdates}
use Rattle.sync_model.specs.declared.message.Content.{Content}
use Rattle.sync_model.specs.declared.message.Entry.{Entry}
use Rattle.sync_model.specs.declared.message.Request.{Request}
use Rattle.sync_model.specs.declared.message.Task.{Task}
use Rattle.sync_model.specs.declared.message.Task.TheVariants.{Batch as Updating, Acks}
use Rattle.sync_model.specs.declared.message.Update.{Update}
use Rattle.sync_model.specs.declared.message.Verdict.{Verdict}
use Rattle.sync_model.specs.declared.message.Verdict.TheVariants.{Committed as CommitAnswers, Updated, Refused}
use Rattle.sync_model.specs.declared.state.KeyState.{KeyState}
use Rattle.sync_model.specs.Sides.{States, Side, state_at}
use Rattle.sync_model.specs.Clients.{Client, side_of}
use Rattle.sync_model.specs.Receiving.{updates_in}
use Rattle.sync_model.specs.Fates.{fate_of}
use Rattle.sync_model.specs.Worlds.{World, client_at, outcome_at}
use Rattle.sync_model.specs.Laws.{Stores}

-- what is said of a value that is on its way, given its type and the number of its edit
abbrev pub Saying : Type 1
Saying = Kind → ℕ → Value → Type 0

-- this is said of the value of an entry
abbrev pub IsSaidOfEntry : Saying → Entry Content → Type 0
IsSaidOfEntry Says entry = Says entry.key.kind entry.content.number entry.content.value

-- this is said of each entry of a call
abbrev pub IsSaidOfCall : Saying → Call Content → Type 0
IsSaidOfCall Says (Commit entries) = AllByRecursion (IsSaidOfEntry Says) entries
IsSaidOfCall Says (AskUpdates marks) = ⊤

-- no update of a key is among these
abbrev pub HasNoUpdate : List ℕ → List Update → Type 0
HasNoUpdate hash updates = AllByRecursion (λ update. update.hash ≡ hash → ⊥) updates

-- some updates are of different keys
abbrev pub AreOfDistinctKeys : List Update → Type 0
AreOfDistinctKeys [] = ⊤
AreOfDistinctKeys (update ∷ updates) = HasNoUpdate update.hash updates × AreOfDistinctKeys updates

-- the updates of each type in what a server says are of different keys
abbrev pub IsOfDistinctKeys : Verdict Content → Type 0
IsOfDistinctKeys (Updated updates) = (kind : Kind) → AreOfDistinctKeys (updates_in kind updates.entries)
IsOfDistinctKeys (CommitAnswers answers) = ⊤
IsOfDistinctKeys (Refused code) = ⊤

-- the author of a write is an entry of a request of this client
pub record IsSentBy (outcomes : List EventOutcome) (client version : ℕ) : Type 0 where
  pub event : ℕ
  pub request : Request Content
  pub made : outcome_at outcomes event ≡ Requested client request
  pub place : ℕ
  pub delivery : ℕ
  pub stores : Stores (outcome_at outcomes delivery) event place version

-- this is said of what a client is acknowledged, and the client sent it
abbrev pub IsSaidOfAck : Saying → Kind → ℕ → List EventOutcome → Ack → Type 0
IsSaidOfAck Says kind client outcomes ack = Says kind ack.number ack.value × IsSentBy outcomes client ack.version

-- a task of a type: its updates are of different keys, and this is said of its acknowledgements
abbrev pub IsSaidOfTask : Saying → Kind → ℕ → List EventOutcome → Task → Type 0
IsSaidOfTask Says kind client outcomes (Updating batch) = AreOfDistinctKeys batch.updates
IsSaidOfTask Says kind client outcomes (Acks acks) = AllByRecursion (IsSaidOfAck Says kind client outcomes) acks

-- this is said of all that is on its way to a side
pub record IsSaidOfSide (Says : Saying) (client : ℕ) (outcomes : List EventOutcome) (kind : Kind) (side : Side) : Type 0 where
  pub mailbox : AllByRecursion (IsSaidOfTask Says kind client outcomes) side.mailbox
  pub pending : IfSome side.pending (λ batch. AreOfDistinctKeys batch.updates)
  pub letter : IfSome side.letter (IsSaidOfTask Says kind client outcomes)

-- this is said of all that is on its way from and to a client, which waits for a request of its own
pub record IsSaidOfClient (Says : Saying) (number : ℕ) (outcomes : List EventOutcome) (client : Client) : Type 0 where
  pub held : AllByRecursion (IsSaidOfEntry Says) client.held
  pub sides : (kind : Kind) → IsSaidOfSide Says number outcomes kind (side_of client kind)
  pub awaits : IfSome client.outstanding (λ event. (request : Request Content) × (outcome_at outcomes event ≡ Requested number request))

-- this is said of each request, for the client that made it, and the updates of a reply are of different keys
abbrev pub IsSaidOfOutcome : (ℕ → Saying) → EventOutcome → Type 0
IsSaidOfOutcome Says (Requested client request) = IsSaidOfCall (Says client) request.call
IsSaidOfOutcome Says (Delivered event reply) = IsOfDistinctKeys reply.verdict
IsSaidOfOutcome Says _ = ⊤

-- this is said of all that is on its way between the clients and the server; no client has the number 0
pub record IsSaidOnTheWay (Says : ℕ → Saying) (world : World) : Type 0 where
  pub clients : (place : ℕ) → IsSaidOfClient (Says (suc place)) (suc place) world.outcomes (client_at world.clients (suc place))
  pub outcomes : (event : ℕ) → IsSaidOfOutcome Says (outcome_at world.outcomes event)

-- what is due of a key is its last edit, which is not above the side's
pub record IsNumbered (last : ℕ) (state : KeyState) : Type 0 where
  pub due : IfSome state.due (λ due. due ≡ state.last_edit)
  pub within : state.last_edit ≤ last

-- all keys of a side are numbered so
abbrev pub AreNumbered : ℕ → States → Type 0
AreNumbered last states = AllByRecursion (λ entry. IsNumbered last entry.1) states

-- what a client has of a type
abbrev pub side_at : World → ℕ → Kind → Side
side_at world number kind = side_of (client_at world.clients number) kind

-- the numbers of edits: no key, settlement, request or acknowledgement has one above its side's last
pub record NumberFacts (world : World) : Type 0 where
  pub keys : (place : ℕ) (kind : Kind) → AreNumbered (side_at world (suc place) kind).last_edit (side_at world (suc place) kind).states
  pub unsettled : (place : ℕ) (kind : Kind) (edit : ℕ) → (side_at world (suc place) kind).last_edit < edit
      → fate_of world.settlements (suc place) kind edit ≡ None
  pub sent : IsSaidOnTheWay (λ number kind edit value. edit ≤ (side_at world number kind).last_edit) world

-- the key of this hash, and no other, has the edit of this number as its last, which is due with this value
abbrev pub IsOnlyOf : ℕ → List ℕ → Value → List ℕ → KeyState → Type 0
IsOnlyOf edit hash value other state =
    state.last_edit ≡ edit → (other ≡ hash) × (state.due ≡ Some edit) × (state.own ≡ value)

-- an edit stands on a side
pub record StandsOn (edit : ℕ) (hash : List ℕ) (value : Value) (states : States) : Type 0 where
  pub due : (state_at states hash).due ≡ Some edit
  pub own : (state_at states hash).own ≡ value
  pub alone : AllByRecursion (λ entry. IsOnlyOf edit hash value entry.0 entry.1) states

-- what is on its way with the number of an edit has its value
abbrev pub HasValueOf : ℕ → Kind → ℕ → Value → ℕ → Saying
HasValueOf client kind edit value number other found own = number ≡ client → other ≡ kind → found ≡ edit → own ≡ value

-- an edit of a client is not settled: it stands, and what is on its way with its number has its value
pub record IsUnsettled (client : ℕ) (kind : Kind) (edit : ℕ) (hash : List ℕ) (value : Value) (world : World) : Type 0 where
  pub counted : edit ≤ (side_at world client kind).last_edit
  pub lacks_fate : fate_of world.settlements client kind edit ≡ None
  pub stands : StandsOn edit hash value (side_at world client kind).states
  pub sent : IsSaidOnTheWay (HasValueOf client kind edit value) world
