use Rattle.sync_model.proofs.Authors.{world_of-EveryWriteHasOneAuthor}
use Rattle.sync_model.proofs.Deliveries.{world_of-EveryEntryWritesOnce}
use Rattle.sync_model.proofs.laws.every_entry_writes_once.Goals as goal

pub returns : goal.returns
returns c = record { entries = world_of-EveryEntryWritesOnce; writes = world_of-EveryWriteHasOneAuthor }
