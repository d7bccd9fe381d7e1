-- The world of each schedule is lawful in the program's runs.
use Rattle.sync_model.specs.declared.event.Schedule.{Schedule}
use Rattle.sync_model.specs.Lawful.{IsLawful}
use Rattle.sync_model.proofs.LawfulWorlds.{world_of-IsLawful}
use Rattle.run_setting.specs.Hashed.{hashed}
use Rattle.run_setting.proofs.Rules.{hashed-IsSetting}

pub runs_are_lawful : (schedule : Schedule) → IsLawful hashed schedule
runs_are_lawful schedule = world_of-IsLawful hashed hashed-IsSetting schedule
