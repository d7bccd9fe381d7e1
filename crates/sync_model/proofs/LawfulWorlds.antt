-- The world of each schedule is lawful; and so is what an event makes of it.
use Rattle.std.proofs.Common.{◌≡◌, ◌++◌, [], ◌∷◌, sym, ap, ◌∙◌}
use Rattle.sync_model.specs.declared.event.Event.{Event}
use Rattle.sync_model.specs.declared.event.Schedule.{Schedule}
use Rattle.sync_model.specs.Settings.{Setting, IsSetting}
use Rattle.sync_model.specs.Worlds.{World, stepped, world_of}
use Rattle.sync_model.specs.Lawful.{IsLawful}
use Rattle.sync_model.proofs.Versions.{world_of-IsBased}
use Rattle.sync_model.proofs.Deliveries.{world_of-EveryEntryWritesOnce}
use Rattle.sync_model.proofs.Authors.{world_of-EveryWriteHasOneAuthor}
use Rattle.sync_model.proofs.NumberLaws.{world_of-EveryNumberIsTrue}
use Rattle.sync_model.proofs.FateStays.{next_world}
use Rattle.sync_model.proofs.FateLaw.{world_of-EveryFateIsTrue}
use Rattle.sync_model.proofs.Agreement.{world_of-Agrees}
use Rattle.sync_model.proofs.GivenWrites.{world_of-EveryReplyGivesWrites}
use Rattle.sync_model.proofs.KeyWorlds.{world_of-NoLockIsLost, world_of-EveryCurrentClientHasTheKeys}
use Rattle.sync_model.proofs.EchoLaw.{world_of-EveryOwnEchoIsKnown}
use Rattle.sync_model.proofs.EchoWorlds.{world_of-EveryOfferIsKept}
use Rattle.sync_model.proofs.KeyOpening.{world_of-EveryCurrentClientOpensWrites, world_of-EveryCurrentClientOpens}

-- the world of each schedule is lawful
pub world_of-IsLawful : (setting : Setting) → IsSetting setting → (schedule : Schedule) → IsLawful setting schedule
world_of-IsLawful setting allowed schedule = record {
  versions = record {
    based = world_of-IsBased setting schedule;
    authors = (world_of-EveryWriteHasOneAuthor setting schedule).0;
    write = (world_of-EveryWriteHasOneAuthor setting schedule).1;
    once = world_of-EveryEntryWritesOnce setting schedule;
  };
  numbers = world_of-EveryNumberIsTrue setting schedule;
  fates = world_of-EveryFateIsTrue setting allowed schedule;
  agreement = world_of-Agrees setting allowed schedule;
  keys = record {
    history = world_of-NoLockIsLost setting allowed schedule;
    clients = world_of-EveryCurrentClientHasTheKeys setting allowed schedule;
    replies = world_of-EveryReplyGivesWrites setting schedule;
    writes = world_of-EveryCurrentClientOpensWrites setting allowed schedule;
    batches = world_of-EveryCurrentClientOpens setting allowed schedule;
  };
  echoes = world_of-EveryOwnEchoIsKnown setting allowed schedule;
  offers = world_of-EveryOfferIsKept setting schedule;
}

-- what an event makes of the world of a schedule is the world of the schedule with that event, and is lawful
pub lawful-after : (setting : Setting) → IsSetting setting → (schedule : Schedule) (event : Event) (world : World) → world ≡ world_of setting schedule
    → (stepped setting event world ≡ world_of setting (record schedule { events = schedule.events ++ event ∷ [] }))
    × IsLawful setting (record schedule { events = schedule.events ++ event ∷ [] })
lawful-after setting allowed schedule event world is = (
  ap (λ (found : World). stepped setting event found) is ∙ sym (next_world setting schedule schedule.events event),
  world_of-IsLawful setting allowed (record schedule { events = schedule.events ++ event ∷ [] }),
)
