use Rattle.schedule_text.proofs.TheLaws.{refuses_none}
use Rattle.schedule_text.proofs.laws.refuses_no_schedule.Goals as goal

pub returns : goal.returns
returns c = refuses_none
