-- What the parts of a world stand for together.
use Rattle.std.specs.Prelude.{ℕ, ◌≤◌, List, reverse, length}
use Rattle.std.specs.List.{AllByRecursion}
use Rattle.sync_model.specs.declared.message.Content.{Content}
use Rattle.sync_model.specs.declared.message.Entry.{Entry}
use Rattle.sync_model.specs.Clients.{Client}
use Rattle.sync_model.specs.Worlds as worlds
use Rattle.replay_messages.specs.declared.wire_record.Record.{Record}
use Rattle.replay_messages.specs.Records.{wire_record}
use Rattle.replay_messages.specs.Recorders.{HasRecorded}
use Rattle.replay_world.specs.declared.happened.Happened.{Happened}
use Rattle.replay_world.specs.declared.world.World.TheInside.{Inside}
use Rattle.replay_world.specs.Outcomes.{outcomes_of, AreKept, IsOfClient}
use Rattle.replay_world.specs.Steps.{world_with}

-- what the parts stand for
abbrev pub world_of : Inside → worlds.World
world_of world =
    world_with world.seed world.server (outcomes_of world.server (reverse world.happened.items)) world.clients.items world.settlements.items

-- There are at most eight clients; what is kept of the messages is right, and all of them are recorded.
pub record IsRight (seed : ℕ) (history : List (Entry Content)) (clients : List Client) (happened : List Happened) (recorder : Record) : Type 0 where
  pub few : length clients ≤ 8
  pub own : AllByRecursion (IsOfClient (length clients)) (reverse happened)
  pub kept : AreKept history (reverse happened)
  pub recorded : HasRecorded recorder (wire_record seed (outcomes_of history (reverse happened)))

-- the parts of a world are right
abbrev pub IsWorld : Inside → Type 0
IsWorld world = IsRight world.seed world.server world.clients.items world.happened.items world.record
