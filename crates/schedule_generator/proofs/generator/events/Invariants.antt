use Rattle.std.proofs.Common.{◌≡◌, ℕ, ◌+◌, ◌-◌, ◌*◌, ◌≤◌, ◌++◌, length}
use Rattle.schedule_generator.specs.Draws.{draws_of}
use Rattle.schedule_generator.specs.Generated.{steps_from}
use Rattle.schedule_generator.proofs.generator.events.Given as goal

abbrev pub invariant-loop-step : goal.invariant-loop-step
invariant-loop-step l = record {
  ahead : l.events ++ steps_from l.clients (l.steps - l._step) (length l.events + 1) l.draws
      ≡ steps_from l.fn.clients l.fn.steps 1 (draws_of l.fn.seed);
  within : length l.events ≤ 22 * l._step;
}
