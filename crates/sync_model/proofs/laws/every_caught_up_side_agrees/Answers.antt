use Rattle.sync_model.proofs.Agreement.{world_of-Agrees}
use Rattle.sync_model.proofs.laws.every_caught_up_side_agrees.Goals as goal

pub returns : goal.returns
returns c = world_of-Agrees
