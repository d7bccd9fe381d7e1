-- The world: the server's history, what came of each event, the clients, the settled edits, and the
-- passphrases that users may know; and what each event makes of it.
use Rattle.std.specs.Prelude.{ℕ, zero, suc, ◌+◌, ◌-◌, Bool, false, ◌==◌, ◌&&◌, if◌then◌else◌, List, [], ◌∷◌, ◌++◌, length, map, slice_index_or, replicate, codes, Option, Some, None}
use Rattle.client_tags.specs.declared.Kind.{Kind}
use Rattle.client_tags.specs.declared.Kind.TheVariants.{Nigori}
use Rattle.sync_model.specs.declared.event.Event.{Event}
use Rattle.sync_model.specs.declared.event.Event.TheVariants.{Edit, Cut, Turn, Gather, Post, Ask, Offer, Lose, Crash, Deliver, Answer, SetPass, GivePass}
use Rattle.sync_model.specs.declared.event.EventOutcome.{EventOutcome}
use Rattle.sync_model.specs.declared.event.EventOutcome.TheVariants.{Void, Requested, Delivered}
use Rattle.sync_model.specs.declared.event.Schedule.{Schedule}
use Rattle.sync_model.specs.declared.fate.Note.{Note}
use Rattle.sync_model.specs.declared.fate.Settlement.{Settlement}
use Rattle.sync_model.specs.declared.message.Content.{Content}
use Rattle.sync_model.specs.declared.message.Entry.{Entry}
use Rattle.sync_model.specs.declared.message.Reply.{Reply}
use Rattle.sync_model.specs.Values.{same_kind, is_absent}
use Rattle.sync_model.specs.Settings.{Setting}
use Rattle.sync_model.specs.Servers.{reply_to, history_served}
use Rattle.sync_model.specs.Clients.{Client, new_client, Effect}
use Rattle.sync_model.specs.Sending.{gather_effect, ask_effect, offer_effect, lose_effect}
use Rattle.sync_model.specs.Receiving.{answer_effect, post_effect, turn_effect}
use Rattle.sync_model.specs.Changes.{change_effect, cut_effect, crash_effect, set_pass_effect, give_pass_effect}

-- The history and the outcomes of the events have the newest first, the clients and the passphrases are in
-- the order of their numbers, and the settlements in that of the events. The seed is that of all random draws.
pub record World : Type 0 where
  pub history : List (Entry Content)
  pub outcomes : List EventOutcome
  pub clients : List Client
  pub settlements : List Settlement
  pub seed : ℕ
  pub passes : List (List ℕ)

-- the world before any event, with so many clients, this seed and these passphrases
abbrev pub opening : ℕ → ℕ → List (List ℕ) → World
opening clients seed passes = record {
  history = [];
  outcomes = [];
  clients = replicate clients new_client;
  settlements = [];
  seed = seed;
  passes = passes;
}

-- the client of a number; one that is not there is new
abbrev pub client_at : List Client → ℕ → Client
client_at clients number = slice_index_or clients (number - 1) new_client

-- the clients with another one at a place, which is made where it is not there
abbrev pub with_client_at : List Client → ℕ → Client → List Client
with_client_at [] zero client = client ∷ []
with_client_at [] (suc place) client = new_client ∷ with_client_at [] place client
with_client_at (other ∷ others) zero client = client ∷ others
with_client_at (other ∷ others) (suc place) client = other ∷ with_client_at others place client

-- the passphrase of a number
abbrev pub pass_at : List (List ℕ) → ℕ → List ℕ
pass_at passes number = slice_index_or passes (number - 1) []

-- what came of the event of a number; an event that has not come has made nothing
unfoldable pub outcome_at : List EventOutcome → ℕ → EventOutcome
outcome_at [] event = Void
outcome_at (outcome ∷ earlier) event = if event == length earlier + 1 then outcome else outcome_at earlier event

-- an event that changes nothing
abbrev pub voided : World → World
voided world = record world { outcomes = Void ∷ world.outcomes }

-- a note of a client's side
abbrev pub settlement_of : ℕ → Kind → Note → Settlement
settlement_of client kind note = record { client = client; kind = kind; number = note.number; fate = note.fate }

-- an event of a client changes the world by its effect
unfoldable pub affected : World → ℕ → Option Effect → World
affected world number None = voided world
affected world number (Some effect) = record {
  history = world.history;
  outcomes = effect.outcome ∷ world.outcomes;
  clients = with_client_at world.clients (number - 1) effect.client;
  settlements = world.settlements ++ map (settlement_of number effect.kind) effect.notes;
  seed = world.seed;
  passes = world.passes;
}

-- the number of the next event
abbrev pub next_event : World → ℕ
next_event world = length world.outcomes + 1

-- the birthday of the server's store
unfoldable pub STORE_BIRTHDAY : List ℕ
STORE_BIRTHDAY = codes "replay"

-- an entry that the server never stores: a deletion of a profile's keys
abbrev pub is_invalid_entry : Entry Content → Bool
is_invalid_entry entry = same_kind entry.key.kind Nigori && is_absent entry.content.value

-- the server handles the request that an event made
abbrev pub delivered : World → ℕ → EventOutcome → World
delivered world event (Requested client request) = record world {
  history = history_served is_invalid_entry STORE_BIRTHDAY world.history request;
  outcomes = Delivered event (reply_to is_invalid_entry STORE_BIRTHDAY world.history request) ∷ world.outcomes;
}
delivered world event _ = voided world

-- the request that is waited for, if any, is that of an event
abbrev pub is_awaited : Option ℕ → ℕ → Bool
is_awaited None request = false
is_awaited (Some event) request = event == request

-- a reply to the request of an event reaches the client that made it, if it waits for that one
abbrev pub replied : World → ℕ → Reply Content → EventOutcome → World
replied world event reply (Requested client request) =
    if is_awaited (client_at world.clients client).outstanding event
    then affected world client (answer_effect request reply (client_at world.clients client))
    else voided world
replied world event reply _ = voided world

-- the reply that a delivery gave reaches its client
abbrev pub answered : World → EventOutcome → World
answered world (Delivered request reply) = replied world request reply (outcome_at world.outcomes request)
answered world _ = voided world

-- an event of a client changes the world by what it makes of the client; no client has the number 0
abbrev pub acted : World → ℕ → (Client → Option Effect) → World
acted world zero event = voided world
acted world (suc place) event = affected world (suc place) (event (client_at world.clients (suc place)))

-- one event makes the next world
unfoldable pub stepped : Setting → Event → World → World
stepped setting (Edit client edit) world = acted world client (change_effect setting client edit)
stepped setting (Cut client kept edit) world = acted world client (cut_effect setting client kept edit)
stepped setting (Turn client kind) world = acted world client (turn_effect setting kind)
stepped setting (Gather client kind) world = acted world client (gather_effect setting client kind)
stepped setting (Post client kind) world = acted world client (post_effect setting kind)
stepped setting (Ask client) world = acted world client (ask_effect client (next_event world))
stepped setting (Offer client) world = acted world client (offer_effect client (next_event world))
stepped setting (Lose client) world = acted world client lose_effect
stepped setting (Crash client) world = acted world client crash_effect
stepped setting (Deliver event) world = delivered world event (outcome_at world.outcomes event)
stepped setting (Answer event) world = answered world (outcome_at world.outcomes event)
stepped setting (SetPass client pass) world =
    acted world client (set_pass_effect setting setting.pass_kind client (pass_at world.passes pass))
stepped setting (GivePass client pass) world =
    acted world client (give_pass_effect setting (pass_at world.passes pass))

-- the world after some events
unfoldable pub run : Setting → World → List Event → World
run setting world [] = world
run setting world (event ∷ events) = run setting (stepped setting event world) events

-- the world after all events of a schedule
abbrev pub world_of : Setting → Schedule → World
world_of setting schedule = run setting (opening schedule.clients schedule.seed schedule.passes) schedule.events
