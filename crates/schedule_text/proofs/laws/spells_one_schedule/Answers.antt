use Rattle.schedule_text.proofs.TheLaws.{spells_one}
use Rattle.schedule_text.proofs.laws.spells_one_schedule.Goals as goal

pub returns : goal.returns
returns c = spells_one
