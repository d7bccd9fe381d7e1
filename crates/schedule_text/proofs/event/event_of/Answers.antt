use Rattle.std.proofs.Common.{[], ◌∷◌}
use Rattle.schedule_text.specs.Grammar.{event_forms}
use Rattle.schedule_text.proofs.Verbs.{no_event_form, verb_reads}
use Rattle.schedule_text.proofs.event.event_of.Goals as goal

pub returns-in_default : goal.returns-in_default
returns-in_default c = no_event_form c.args.line.now c.args.clients c.args.passes c.in_default.ensures

pub returns : goal.returns
returns c =
    verb_reads c.args.clients c.args.passes c.in-Some.verb c.args.line.now c.in-Some.rest.now c.event_after.result c.in-Some.ensures c.event_after.ensures
