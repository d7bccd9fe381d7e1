-- That the world of a schedule is lawful.
use Rattle.std.specs.Prelude.{◌≡◌, [], ◌∷◌, ◌++◌}
use Rattle.sync_model.specs.declared.event.Event.{Event}
use Rattle.sync_model.specs.declared.event.Schedule.{Schedule}
use Rattle.sync_model.specs.Lawful.{IsLawful}
use Rattle.sync_model.specs.Worlds.{World, world_of}
use Rattle.run_setting.specs.Hashed.{hashed}

-- a schedule with one event more
abbrev pub with_event : Schedule → Event → Schedule
with_event schedule event = record schedule { events = schedule.events ++ event ∷ [] }

-- a world is that of a schedule, and lawful
pub record IsLawfulWorld (schedule : Schedule) (world : World) : Type 0 where
  pub is_its : world ≡ world_of hashed schedule
  pub lawful : IsLawful hashed schedule
