use Rattle.sync_model.proofs.GivenWrites.{world_of-EveryReplyGivesWrites}
use Rattle.sync_model.proofs.KeyWorlds.{world_of-NoLockIsLost, world_of-EveryCurrentClientHasTheKeys}
use Rattle.sync_model.proofs.KeyOpening.{world_of-EveryCurrentClientOpensWrites, world_of-EveryCurrentClientOpens}
use Rattle.sync_model.proofs.laws.no_key_is_lost.Goals as goal

pub returns : goal.returns
returns c = record {
  history = world_of-NoLockIsLost;
  clients = world_of-EveryCurrentClientHasTheKeys;
  replies = world_of-EveryReplyGivesWrites;
  writes = world_of-EveryCurrentClientOpensWrites;
  batches = world_of-EveryCurrentClientOpens;
}
