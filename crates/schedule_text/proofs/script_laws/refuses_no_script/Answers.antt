use Rattle.schedule_text.proofs.ScriptLaws.{refuses_none}
use Rattle.schedule_text.proofs.script_laws.refuses_no_script.Goals as goal

pub returns : goal.returns
returns c = refuses_none
