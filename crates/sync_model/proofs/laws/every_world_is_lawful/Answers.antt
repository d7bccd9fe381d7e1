use Rattle.sync_model.proofs.LawfulWorlds.{world_of-IsLawful}
use Rattle.sync_model.proofs.laws.every_world_is_lawful.Goals as goal

pub returns : goal.returns
returns c = world_of-IsLawful
