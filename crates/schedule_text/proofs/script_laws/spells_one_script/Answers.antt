use Rattle.schedule_text.proofs.ScriptLaws.{spells_one}
use Rattle.schedule_text.proofs.script_laws.spells_one_script.Goals as goal

pub returns : goal.returns
returns c = spells_one
