use Rattle.schedule_text.specs.Scripts.{script_words}
use Rattle.schedule_text.proofs.script_line.change_line.Goals as goal

pub returns : goal.returns
unfolding script_words
returns c = c.in_ok-edit.ensures
