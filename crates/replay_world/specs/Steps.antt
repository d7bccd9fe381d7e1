-- The parts of a world, and what an event makes of them.
use Rattle.std.specs.Prelude.{◌≡◌, ℕ, List, [], ◌∷◌, ◌++◌, length, Option}
use Rattle.sync_model.specs.declared.event.Event.{Event}
use Rattle.sync_model.specs.declared.event.EventOutcome.{EventOutcome}
use Rattle.sync_model.specs.declared.fate.Settlement.{Settlement}
use Rattle.sync_model.specs.declared.message.Content.{Content}
use Rattle.sync_model.specs.declared.message.Entry.{Entry}
use Rattle.sync_model.specs.Clients.{Client, Effect}
use Rattle.sync_model.specs.Worlds as worlds
use Rattle.sync_model.specs.Worlds.{acted, delivered, answered, outcome_at, stepped}
use Rattle.run_setting.specs.Hashed.{hashed}
use Rattle.replay_messages.specs.Records.{wire_record}
use Rattle.replay_world.specs.declared.happened.Happened.{Happened}
use Rattle.replay_world.specs.Outcomes.{outcome_of, outcomes_of, AreKept, IsKept, IsOfClient, IsQuiet, sent}

-- the world of a seed, of a history and of what came of some events, both with the newest first, and of clients without passphrases
abbrev pub world_with : ℕ → List (Entry Content) → List EventOutcome → List Client → List Settlement → worlds.World
world_with seed history outcomes clients settlements = record {
  history = history;
  outcomes = outcomes;
  clients = clients;
  settlements = settlements;
  seed = seed;
  passes = [];
}

-- an event of a client makes these clients and settlements of those, whatever else the world has, and no message
pub record Acts (number : ℕ) (event : Client → Option Effect) (before clients : List Client) (settled_before settled : List Settlement) (happened : Happened) : Type 0 where
  pub quiet : IsQuiet happened
  pub counted : length clients ≡ length before
  pub acts : (seed : ℕ) (history : List (Entry Content)) (outcomes : List EventOutcome)
      → acted (world_with seed history outcomes before settled_before) number event
      ≡ world_with seed history (outcome_of history outcomes happened ∷ outcomes) clients settled

-- an event of a client that settles nothing makes these clients of those, whatever else the world has, and no message
abbrev pub ActsAlone : ℕ → (Client → Option Effect) → List Client → List Client → Happened → Type 0
ActsAlone number event before clients happened = (settled : List Settlement) → Acts number event before clients settled settled happened

-- an event of a client makes these clients of those, whatever else the world has, and the message of a request if it is not void
pub record Asks (number : ℕ) (event : Client → Option Effect) (before clients : List Client) (happened : Happened) : Type 0 where
  pub kept : (history : List (Entry Content)) (outcomes : List EventOutcome) → IsKept history outcomes happened
  pub own : IsOfClient (length before) happened
  pub counted : length clients ≡ length before
  pub acts : (seed : ℕ) (history : List (Entry Content)) (outcomes : List EventOutcome) (settled : List Settlement)
      → acted (world_with seed history outcomes before settled) number event
      ≡ world_with seed history (outcome_of history outcomes happened ∷ outcomes) clients settled

-- a delivery makes this history of that one, whatever else the world has, and the message of a reply if it is not void
pub record Delivers (earlier : List Happened) (event : ℕ) (before history : List (Entry Content)) (happened : Happened) : Type 0 where
  pub same : outcomes_of history earlier ≡ outcomes_of before earlier
  pub own : (clients : ℕ) → IsOfClient clients happened
  pub kept : AreKept history (happened ∷ earlier)
  pub delivers : (seed : ℕ) (clients : List Client) (settled : List Settlement)
      → delivered (world_with seed before (outcomes_of before earlier) clients settled) event (outcome_at (outcomes_of before earlier) event)
      ≡ world_with seed history (outcomes_of history (happened ∷ earlier)) clients settled

-- a reply makes these clients of those, whatever else the world has, and no message
pub record Receives (history : List (Entry Content)) (earlier : List Happened) (event : ℕ) (before clients : List Client) (happened : Happened) : Type 0 where
  pub quiet : IsQuiet happened
  pub counted : length clients ≡ length before
  pub receives : (seed : ℕ) (settled : List Settlement)
      → answered (world_with seed history (outcomes_of history earlier) before settled) (outcome_at (outcomes_of history earlier) event)
      ≡ world_with seed history (outcomes_of history (happened ∷ earlier)) clients settled

-- an event makes these parts of those
pub record Steps (seed : ℕ) (event : Event) (earlier : List Happened) (before history : List (Entry Content)) (clients_before clients : List Client) (settled_before settled : List Settlement) (happened : Happened) : Type 0 where
  pub own : IsOfClient (length clients) happened
  pub kept : AreKept history (happened ∷ earlier)
  pub counted : length clients ≡ length clients_before
  pub recorded : wire_record seed (outcomes_of history (happened ∷ earlier)) ≡ wire_record seed (outcomes_of before earlier) ++ sent happened
  pub steps : stepped hashed event (world_with seed before (outcomes_of before earlier) clients_before settled_before)
      ≡ world_with seed history (outcomes_of history (happened ∷ earlier)) clients settled
