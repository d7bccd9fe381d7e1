-- A step leads from the world of some events to that of one more, which is lawful.
use Rattle.std.proofs.Common.{◌≡◌, ◌∙◌}
use Rattle.run_setting.specs.Hashed.{hashed}
use Rattle.sync_model.specs.declared.event.Event.{Event}
use Rattle.sync_model.specs.declared.event.Schedule.{Schedule}
use Rattle.sync_model.specs.Settings.{IsSetting}
use Rattle.sync_model.specs.Worlds.{World, world_of, stepped}
use Rattle.sync_model.proofs.LawfulWorlds.{lawful-after}
use Rattle.replay_world.specs.Lawful.{with_event, IsLawfulWorld}

pub steps_lawfully : (schedule : Schedule) (event : Event) (old new : World) → IsSetting hashed → old ≡ world_of hashed schedule
    → new ≡ stepped hashed event old → IsLawfulWorld (with_event schedule event) new
steps_lawfully schedule event old new allowed is step =
    let after = lawful-after hashed allowed schedule event old is in
    record { is_its = step ∙ after.0; lawful = after.1 }
