use Rattle.http_edge.proofs.Fronts.{TookFront-all, TookFront-take}
use Rattle.http_edge.proofs.outgoing.write_all.Goals as goal

pub returns-in-Ok-clause-took_front : goal.returns-in-Ok-clause-took_front
returns-in-Ok-clause-took_front g c = TookFront-all _ _ _ c.in-Ok.ensures.whole

pub returns-in-Err-clause-took_front : goal.returns-in-Err-clause-took_front
returns-in-Err-clause-took_front g c = TookFront-take _ _ _ _ c.in-Err.ensures.part
