use Rattle.sync_model.specs.Sending.{own_lock}
use Rattle.type_worker.proofs.LockLemmas.{own_has}
use Rattle.type_worker.proofs.locks.has_own_lock.Goals as goal

pub returns-in-Some : goal.returns-in-Some
returns-in-Some c =
    own_has c.args.bag.now c.in-Some.lock.now c.as_slice.result.now (own_lock c.args.value.now) c.has.result c.in-Some.ensures c.as_slice.ensures
    c.has.ensures.answer
