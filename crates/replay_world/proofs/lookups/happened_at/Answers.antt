use Rattle.std.proofs.Common.{◌<◌, arith}
use Rattle.replay_world.proofs.Kept.{kept_zero, kept_not_come, kept_come}
use Rattle.replay_world.proofs.lookups.happened_at.Goals as goal

pub returns-then-event-eq0 : goal.returns-then-event-eq0
returns-then-event-eq0 c = kept_zero c.args.happened.now c.args.event c.if-event-eq0.true

pub returns-then-event-happened : goal.returns-then-event-happened
returns-then-event-happened c = kept_not_come c.args.happened.now c.args.event c.if-event-happened.true

pub returns : goal.returns
returns c =
    let above : 0 < c.args.event = omega (arith, c.if-event-eq0.false) in
    kept_come c.args.happened.now c.args.event c.index-happened-event.result above c.if-event-happened.false c.index-happened-event.is
