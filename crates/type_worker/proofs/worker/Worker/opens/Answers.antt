use Rattle.type_worker.proofs.Held.{opens_held}
use Rattle.type_worker.proofs.worker.Worker.opens.Goals as goal

pub returns-in-Some : goal.returns-in-Some
returns-in-Some c =
    opens_held c.args.bag.now c.args.self.now c.self.inside.kind c.self.inside.pending c.in-Some.pending c.opens.result c.self.view_is c.in-Some.is c.opens.ensures
