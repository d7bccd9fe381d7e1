use Rattle.schedule_text.proofs.ScriptLaws.{canonical_scripts}
use Rattle.schedule_text.proofs.script_laws.spells_canonical_scripts.Goals as goal

pub returns : goal.returns
returns c = canonical_scripts
