use Rattle.schedule_text.specs.declared.line.Line.TheVariants.{Clients}
use Rattle.schedule_text.proofs.Refusing.{first_is_refused, line_is}
use Rattle.schedule_text.proofs.parse.first_line.Goals as goal

pub returns-in-Ok : goal.returns-in-Ok
returns-in-Ok c = (c.in-Ok.ensures.0, line_is c.args.bytes.now c.in-Some.line.now c.in-Some.rest.now (Clients c.in-Ok.clients) c.in-Some.ensures c.in-Ok.ensures.1)

pub returns-in-Err : goal.returns-in-Err
returns-in-Err c = first_is_refused c.args.bytes.now c.in-Some.line.now c.in-Some.rest.now c.in-Err.fault c.at_line.result c.at_line.ensures c.in-Some.ensures c.in-Err.ensures
