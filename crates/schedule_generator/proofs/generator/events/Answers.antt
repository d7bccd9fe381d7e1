use Rattle.std.proofs.Common.{◌+◌, ◌-◌, arith}
use Rattle.schedule_generator.specs.Draws.{draws_of}
use Rattle.schedule_generator.specs.Generated.{steps_from}
use Rattle.schedule_generator.proofs.Stepping.{next_ahead, next_within, none_left}
use Rattle.schedule_generator.proofs.generator.events.Goals as goal

pub loop-step-preserved : goal.loop-step-preserved
loop-step-preserved c = record {
  ahead = next_ahead c.args.clients (c.args.steps - c.loop-step._step) (c.args.steps - (c.loop-step._step + 1))
      c.loop-step.events c.write_step.new.events (steps_from c.args.clients c.args.steps 1 (draws_of c.args.seed))
      c.loop-step.draws c.write_step.new.draws (omega (arith, c.loop-step-test.true))
      c.in_ok-write_step.ensures.events c.in_ok-write_step.ensures.rest c.loop-step.invariant.ahead;
  within = next_within c.args.clients c.loop-step._step c.loop-step.events c.write_step.new.events c.loop-step.draws
      c.in_ok-write_step.ensures.events c.loop-step.invariant.within;
}

pub returns : goal.returns
returns c = none_left c.args.clients (c.args.steps - c.loop-step._step) c.loop-step.events
    (steps_from c.args.clients c.args.steps 1 (draws_of c.args.seed)) c.loop-step.draws
    (omega (arith, c.loop-step-test.false)) c.loop-step.invariant.ahead
