use Rattle.std.proofs.Common.{◌≡◌, drop}
use Rattle.type_worker.specs.Sending.{have_own_locks}
use Rattle.type_worker.proofs.locks.have_own_locks.Given as goal

abbrev pub invariant-loop-offer : goal.invariant-loop-offer
invariant-loop-offer l = have_own_locks l.bag (drop l.offer-index l.offers) ≡ have_own_locks l.fn.bag l.fn.offers
