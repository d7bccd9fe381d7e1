use Rattle.schedule_text.proofs.TheLaws.{refuses_one}
use Rattle.schedule_text.proofs.laws.refuses_one_line.Goals as goal

pub returns : goal.returns
returns c = refuses_one
