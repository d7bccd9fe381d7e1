use Rattle.sync_model.proofs.Versions.{stepped-IsBased, world_of-IsBased}
use Rattle.sync_model.proofs.laws.every_write_is_based.Goals as goal

pub returns : goal.returns
returns c = record { each_event = stepped-IsBased; each_run = world_of-IsBased }
