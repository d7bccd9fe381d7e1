use Rattle.std.proofs.Common.{◌∙◌, drop}
use Rattle.type_worker.proofs.Settled.{settled_more, settled_without_offers, settled_without_locks, settled_all}
use Rattle.type_worker.proofs.settling.settled.Goals as goal

pub returns-in_default : goal.returns-in_default
returns-in_default c =
    c.from_vec.ensures
    ∙ settled_without_offers _ c.loop-answer.acks.items c.loop-answer.offers.items c.pop_front.new.self.items c.loop-answer.locks.items
    (drop c.loop-answer.answer-index c.args.answers.now) c.in_default.ensures.items c.in_default.ensures.rest c.loop-answer.invariant

pub returns-in_default-pop_front : goal.returns-in_default-pop_front
returns-in_default-pop_front c =
    c.from_vec-in_default-pop_front.ensures
    ∙ settled_without_locks _ c.loop-answer.acks.items c.loop-answer.offers.items c.loop-answer.locks.items c.pop_front-in-loop-answer.new.self.items
    (drop c.loop-answer.answer-index c.args.answers.now) c.in_default-pop_front.ensures.items c.in_default-pop_front.ensures.rest c.loop-answer.invariant

pub loop-answer-preserved : goal.loop-answer-preserved
loop-answer-preserved c =
    settled_more _ c.loop-answer.acks.items c.acknowledge.new.acks.items c.loop-answer.offers.items c.pop_front.new.self.items
    c.loop-answer.locks.items c.pop_front-in-loop-answer.new.self.items c.args.answers.now c.loop-answer.answer-index c.in-Some.offer
    c.in-Some-pop_front.lock c.answer-item.result c.in-Some.ensures.items c.in-Some-pop_front.ensures.items c.loop-answer-test.true c.answer-item.is
    c.in_ok-acknowledge.ensures c.loop-answer.invariant

pub returns : goal.returns
returns c =
    c.from_vec-2.ensures
    ∙ settled_all _ c.loop-answer.acks.items c.loop-answer.offers.items c.loop-answer.locks.items c.args.answers.now c.loop-answer.answer-index
    c.loop-answer-test.false c.loop-answer.invariant
