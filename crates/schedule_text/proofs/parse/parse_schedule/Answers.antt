use Rattle.schedule_text.specs.Refusals.{IsRefused}
use Rattle.schedule_text.specs.Spelling.{Spells}
use Rattle.schedule_text.proofs.Answering.{is_taken, is_told}
use Rattle.schedule_text.proofs.TheLaws.{refuses_none, refuses_one, spells_one}
use Rattle.schedule_text.proofs.parse.parse_schedule.Goals as goal

pub returns-clause-taken : goal.returns-clause-taken
returns-clause-taken c =
    let text = c.args.bytes.now in
    is_taken (Spells text) (IsRefused text) (spells_one text) (refuses_none text) c.schedule_of.result c.schedule_of.ensures

pub returns-clause-told : goal.returns-clause-told
returns-clause-told c =
    let text = c.args.bytes.now in
    is_told (Spells text) (IsRefused text) (refuses_one text) (refuses_none text) c.schedule_of.result c.schedule_of.ensures
