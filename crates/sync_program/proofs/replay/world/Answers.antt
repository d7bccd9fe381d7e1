use Rattle.std.proofs.Common.{◌≤◌, length, ap, rules, arith}
use Rattle.std.proofs.lemmas.Grind.{common_steps}
use Rattle.sync_program.proofs.Stepping.{step_ahead, none_ahead}
use Rattle.sync_program.proofs.replay.world.Goals as goal

-- the next event is stepped, and the rest stays ahead
pub loop-event-preserved : goal.loop-event-preserved
loop-event-preserved c = record {
  items = search rules;
  ahead = grind (arith, common_steps, step_ahead);
  counted = search rules;
  clients = search rules;
}

-- no event is ahead any more
pub returns : goal.returns
returns c =
    let events = c.args.schedule.now.events in
    let all : length events ≤ c.loop-event.event-index = omega (arith, ap length c.loop-event.invariant.items) in
    none_ahead _ _ events c.loop-event.event-index all c.loop-event.invariant.ahead
