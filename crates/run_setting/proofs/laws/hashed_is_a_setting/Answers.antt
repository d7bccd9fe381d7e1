use Rattle.run_setting.proofs.Rules.{hashed-IsSetting}
use Rattle.run_setting.proofs.laws.hashed_is_a_setting.Goals as goal

pub returns : goal.returns
returns c = hashed-IsSetting
