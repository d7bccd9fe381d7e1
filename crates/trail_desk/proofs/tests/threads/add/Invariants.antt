use Rattle.trail_desk.specs.Passes.{IsPassOf}
use Rattle.trail_desk.proofs.tests.threads.add.Given as goal

abbrev pub invariant-steps : goal.invariant-steps
invariant-steps g l = IsPassOf l.desk l.pass
