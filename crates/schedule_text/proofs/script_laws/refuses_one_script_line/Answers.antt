use Rattle.schedule_text.proofs.ScriptLaws.{refuses_one}
use Rattle.schedule_text.proofs.script_laws.refuses_one_script_line.Goals as goal

pub returns : goal.returns
returns c = refuses_one
