-- All that holds of the world of a schedule, whatever is delivered and lost, and however often.
use Rattle.sync_model.specs.declared.event.Schedule.{Schedule}
use Rattle.sync_model.specs.Settings.{Setting}
use Rattle.sync_model.specs.Laws.{WritesAreBased, EntriesWriteOnce, WritesHaveOneAuthor, AuthorsWrite, NumbersAreTrue, FatesAreTrue, CaughtUpSidesAgree, LocksAreKept, CurrentClientsHaveTheKeys, CurrentClientsOpenWrites, RepliesGiveWrites, CurrentClientsOpen}
use Rattle.sync_model.specs.EchoFacts.{OffersAreKept}
use Rattle.sync_model.specs.EchoLaws.{OwnEchoesAreKnown}

-- the writes: each is based on the last one of its key, and has one author, which has no other write
pub record VersionsAreLawful (setting : Setting) (schedule : Schedule) : Type 0 where
  pub based : WritesAreBased setting schedule
  pub authors : WritesHaveOneAuthor setting schedule
  pub write : AuthorsWrite setting schedule
  pub once : EntriesWriteOnce setting schedule

-- the profile's keys: none that seals a write is lost, and a client that knows the newest has all and opens all
pub record KeysAreLawful (setting : Setting) (schedule : Schedule) : Type 0 where
  pub history : LocksAreKept setting schedule
  pub clients : CurrentClientsHaveTheKeys setting schedule
  pub replies : RepliesGiveWrites setting schedule
  pub writes : CurrentClientsOpenWrites setting schedule
  pub batches : CurrentClientsOpen setting schedule

-- The world of a schedule is lawful: its versions are, the numbers and the fates of its edits are true, its sides agree with the
-- server once they are caught up, its keys are kept, and no edit is lost to an earlier offer of its own client that is known.
pub record IsLawful (setting : Setting) (schedule : Schedule) : Type 0 where
  pub versions : VersionsAreLawful setting schedule
  pub numbers : NumbersAreTrue setting schedule
  pub fates : FatesAreTrue setting schedule
  pub agreement : CaughtUpSidesAgree setting schedule
  pub keys : KeysAreLawful setting schedule
  pub echoes : OwnEchoesAreKnown setting schedule
  pub offers : OffersAreKept setting schedule
