use Rattle.schedule_text.proofs.ScriptLaws.{read_back}
use Rattle.schedule_text.proofs.script_laws.scripts_are_read_back.Goals as goal

pub returns : goal.returns
returns c = read_back
