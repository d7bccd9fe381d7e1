use Rattle.sync_model.proofs.FateLaw.{world_of-EveryFateIsTrue}
use Rattle.sync_model.proofs.NumberLaws.{world_of-EveryNumberIsTrue}
use Rattle.sync_model.proofs.laws.every_fate_is_true.Goals as goal

pub returns : goal.returns
returns c = record { fates = world_of-EveryFateIsTrue; numbers = world_of-EveryNumberIsTrue }
