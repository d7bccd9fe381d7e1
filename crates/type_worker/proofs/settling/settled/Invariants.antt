use Rattle.std.proofs.Common.{◌≡◌, ◌++◌, drop}
use Rattle.type_worker.specs.Settling.{settled}
use Rattle.type_worker.proofs.settling.settled.Given as goal

abbrev pub invariant-loop-answer : goal.invariant-loop-answer
invariant-loop-answer l =
    l.acks.items ++ settled l.offers.items l.locks.items (drop l.answer-index l.answers) ≡ settled l.initial.offers.items l.initial.locks.items l.answers
