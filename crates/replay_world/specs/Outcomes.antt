-- What the events of a world made, as the world keeps it, and what it keeps of their messages.
use Rattle.std.specs.Prelude.{◌≡◌, ℕ, ◌+◌, ◌-◌, ◌≤◌, ◌==◌, if◌then◌else◌, List, [], ◌∷◌, length, drop, Option, None, Some}
use Rattle.sync_messages.specs.Laws.{IsSayable, IsSayableRequest}
use Rattle.sync_messages.specs.Spellings.{to_bytes, from_bytes}
use Rattle.sync_model.specs.declared.event.EventOutcome.{EventOutcome}
use Rattle.sync_model.specs.declared.event.EventOutcome.TheVariants.{Void, Done, Edited, Requested, Delivered}
use Rattle.sync_model.specs.declared.message.Content.{Content}
use Rattle.sync_model.specs.declared.message.Entry.{Entry}
use Rattle.sync_model.specs.declared.message.Reply.{Reply}
use Rattle.sync_model.specs.declared.message.Request.{Request}
use Rattle.sync_model.specs.declared.message.Verdict.TheVariants.{Refused}
use Rattle.sync_model.specs.Servers.{reply_to}
use Rattle.sync_model.specs.Worlds.{STORE_BIRTHDAY, is_invalid_entry, outcome_at}
use Rattle.replay_messages.specs.Forms.{IsPlainCall}
use Rattle.replay_messages.specs.Messages.{request_told, reply_told}
use Rattle.replay_messages.specs.Records.{REQUEST, REPLY, framed}
use Rattle.replay_client.specs.Replies.{IsReplyTo}
use Rattle.replay_world.specs.declared.happened.Happened.{Happened}
use Rattle.replay_world.specs.declared.happened.Happened.TheVariants as kept
use Rattle.replay_world.specs.Events.{IsNumber}

-- a history as it was when it had so many writes
abbrev pub history_at : List (Entry Content) → ℕ → List (Entry Content)
history_at history count = drop (length history - count) history

-- what the server says to a request
abbrev pub served_reply : List (Entry Content) → Request Content → Reply Content
served_reply history request = reply_to is_invalid_entry STORE_BIRTHDAY history request

-- what stands where nothing was asked
abbrev pub no_reply : Reply Content
no_reply = record { birthday = None; verdict = Refused 0 }

-- what the server says to the request that an event made
abbrev pub reply_of : List (Entry Content) → EventOutcome → Reply Content
reply_of history (Requested client request) = served_reply history request
reply_of history Void = no_reply
reply_of history Done = no_reply
reply_of history (Edited client kind number) = no_reply
reply_of history (Delivered event reply) = no_reply

-- what came of an event: a delivery keeps how many writes there were, which gives the reply to its request
abbrev pub outcome_of : List (Entry Content) → List EventOutcome → Happened → EventOutcome
outcome_of history earlier kept.Void = Void
outcome_of history earlier kept.Done = Done
outcome_of history earlier (kept.Edited client kind number) = Edited client kind number
outcome_of history earlier (kept.Requested client request bytes) = Requested client request
outcome_of history earlier (kept.Delivered request before bytes) =
    Delivered request (reply_of (history_at history before) (outcome_at earlier request))

-- what came of some events, the newest first
unfoldable pub outcomes_of : List (Entry Content) → List Happened → List EventOutcome
outcomes_of history [] = []
outcomes_of history (happened ∷ earlier) =
    outcome_of history (outcomes_of history earlier) happened ∷ outcomes_of history earlier

-- what came of the event of a number, in a list that has the newest first, if it has come
unfoldable pub kept_at : List Happened → ℕ → Option Happened
kept_at [] event = None
kept_at (happened ∷ earlier) event = if event == length earlier + 1 then Some happened else kept_at earlier event

-- the bytes are those of a client's request in a run of any seed, which bytes can say
pub record IsRequest (client : ℕ) (request : Request Content) (bytes : List ℕ) : Type 0 where
  pub plain : IsPlainCall request.call
  pub is_told : (seed : ℕ) → bytes ≡ to_bytes (request_told seed client request)
  pub sayable : (seed : ℕ) → IsSayableRequest (request_told seed client request).request

-- the bytes are those of a server's reply to a request in a run of any seed, which bytes can say
pub record IsReply (request : Request Content) (reply : Reply Content) (bytes : List ℕ) : Type 0 where
  pub answers : IsReplyTo request.call reply.verdict
  pub is_told : (seed : ℕ) → bytes ≡ from_bytes (reply_told seed request reply)
  pub sayable : (seed : ℕ) → IsSayable (reply_told seed request reply)

-- the bytes are those of what the server said, when it had so many writes, to the request that an event made
pub record IsDelivery (history : List (Entry Content)) (earlier : List EventOutcome) (event before : ℕ) (bytes : List ℕ) : Type 0 where
  pub client : ℕ
  pub request : Request Content
  pub made : outcome_at earlier event ≡ Requested client request
  pub within : before ≤ length history
  pub says : IsReply request (served_reply (history_at history before) request) bytes

-- what is kept of an event's message is right
abbrev pub IsKept : List (Entry Content) → List EventOutcome → Happened → Type 0
IsKept history earlier kept.Void = Unit {0}
IsKept history earlier kept.Done = Unit {0}
IsKept history earlier (kept.Edited client kind number) = Unit {0}
IsKept history earlier (kept.Requested client request bytes) = IsRequest client request bytes
IsKept history earlier (kept.Delivered request before bytes) = IsDelivery history earlier request before bytes

-- what is kept of each of some events is right, the newest first
unfoldable pub AreKept : List (Entry Content) → List Happened → Type 0
AreKept history [] = Unit {0}
AreKept history (happened ∷ earlier) =
    IsKept history (outcomes_of history earlier) happened × AreKept history earlier

-- a request is of one of so many clients
abbrev pub IsOfClient : ℕ → Happened → Type 0
IsOfClient clients (kept.Requested client request bytes) = IsNumber clients client
IsOfClient clients kept.Void = Unit {0}
IsOfClient clients kept.Done = Unit {0}
IsOfClient clients (kept.Edited client kind number) = Unit {0}
IsOfClient clients (kept.Delivered request before bytes) = Unit {0}

-- an event made no message
abbrev pub IsQuiet : Happened → Type 0
IsQuiet kept.Void = Unit {0}
IsQuiet kept.Done = Unit {0}
IsQuiet (kept.Edited client kind number) = Unit {0}
IsQuiet (kept.Requested client request bytes) = ⊥
IsQuiet (kept.Delivered request before bytes) = ⊥

-- what an event adds to the record of all messages
abbrev pub sent : Happened → List ℕ
sent (kept.Requested client request bytes) = framed REQUEST bytes
sent (kept.Delivered request before bytes) = framed REPLY bytes
sent kept.Void = []
sent kept.Done = []
sent (kept.Edited client kind number) = []
