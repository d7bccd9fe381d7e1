use Rattle.std.proofs.Common.{length, arith, ap}
use Rattle.replay_world.proofs.Stored.{stored_more, stored_none, stored_all}
use Rattle.replay_world.proofs.copies.keep_stored.Goals as goal

pub returns-in_default : goal.returns-in_default
returns-in_default c =
    stored_none _ c.loop-answer.writes.items c.loop-answer.entries.items c.pop_front.new.self.items _ c.in_default.ensures.items c.in_default.ensures.rest c.loop-answer.invariant.stored

pub loop-answer-preserved : goal.loop-answer-preserved
loop-answer-preserved c = record {
  room = omega (arith, ap length c.in-Some.ensures.items, c.keep_if.ensures.longer, c.keep_if.ensures.room, c.loop-answer.invariant.room);
  stored = stored_more _ c.loop-answer.writes.items c.keep_if.new.writes.items c.loop-answer.entries.items c.pop_front.new.self.items c.in-Some.entry c.args.answers.now c.loop-answer.answer-index c.answer-item.result c.is_stored.result
      c.in-Some.ensures.items c.loop-answer-test.true c.answer-item.is c.is_stored.ensures c.keep_if.ensures.writes c.loop-answer.invariant.stored;
}

pub returns : goal.returns
returns c = stored_all _ c.loop-answer.writes.items c.loop-answer.entries.items c.args.answers.now c.loop-answer.answer-index c.loop-answer-test.false c.loop-answer.invariant.stored
