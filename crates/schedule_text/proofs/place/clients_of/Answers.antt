use Rattle.schedule_text.proofs.LineReadings.{clients_read, no_clients}
use Rattle.schedule_text.proofs.place.clients_of.Goals as goal

pub returns-in-Some : goal.returns-in-Some
returns-in-Some c = clients_read c.args.line.now c.in-Some.rest.now c.one_number.result c.in-Some.ensures c.one_number.ensures

pub returns-in-None : goal.returns-in-None
returns-in-None c = no_clients c.args.line.now c.in-None.ensures
