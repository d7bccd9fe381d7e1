use Rattle.schedule_text.proofs.TheLaws.{read_back}
use Rattle.schedule_text.proofs.laws.texts_are_read_back.Goals as goal

pub returns : goal.returns
returns c = read_back
