use Rattle.std.proofs.Common.{◌≡◌, List, Some, ℕ, IsTrue, ap, ◌∙◌}
use Rattle.type_worker.proofs.LockLemmas.{has_default}
use Rattle.type_worker.proofs.locks.default_name.Goals as goal

pub returns-in_ok-copy-in-Some-clause-has : goal.returns-in_ok-copy-in-Some-clause-has
returns-in_ok-copy-in-Some-clause-has c =
    has_default c.args.bag.now (Some c.in_ok-copy-in-Some.field-0) c.default_name.ensures.is_bag
    (ap Some c.in_ok-copy-in-Some.ensures ∙ c.in-Some.ensures.name)
