use Rattle.type_worker.proofs.Held.{still_held}
use Rattle.type_worker.proofs.worker.Worker.keys_changed.Goals as goal

pub returns-clause-kept : goal.returns-clause-kept
returns-clause-kept c =
    λ task same. still_held c.args.self.now c.self.inside.kind c.self.inside.pending c.in-Some.pending c.try_again.new.self c.self.view_is c.in-Some.is
    (c.try_again.ensures.kept task same)
