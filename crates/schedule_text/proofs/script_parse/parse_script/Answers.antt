use Rattle.schedule_text.specs.ScriptRefusals.{IsScriptRefused}
use Rattle.schedule_text.specs.Scripts.{SpellsScript}
use Rattle.schedule_text.proofs.Answering.{is_taken, is_told}
use Rattle.schedule_text.proofs.ScriptLaws.{refuses_none, refuses_one, spells_one}
use Rattle.schedule_text.proofs.script_parse.parse_script.Goals as goal

pub returns-clause-taken : goal.returns-clause-taken
returns-clause-taken c =
    let text = c.args.bytes.now in
    is_taken (SpellsScript text) (IsScriptRefused text) (spells_one text) (refuses_none text) c.script_of.result c.script_of.ensures

pub returns-clause-told : goal.returns-clause-told
returns-clause-told c =
    let text = c.args.bytes.now in
    is_told (SpellsScript text) (IsScriptRefused text) (refuses_one text) (refuses_none text) c.script_of.result c.script_of.ensures
