use Rattle.std.proofs.Common.{length, arith, ap}
use Rattle.loopback_server.specs.Stores.{history_of}
use Rattle.loopback_server.proofs.CommitLemmas.{step_answers, step_history, step_places, step_ids, step_sayable, end_answers, end_history}
use Rattle.loopback_server.proofs.store.Store.answer_all.Goals as goal

pub candidates-preserved : goal.candidates-preserved
candidates-preserved c = record {
  indexed = c.answer_read.ensures.indexed;
  ids = step_ids c.candidates.candidates.items c.in-Some.candidate c.pop_front.new.self.items c.in-Some.ensures.items c.candidates.invariant.ids;
  have_places = step_places c.candidates.self.index.entries c.answer_read.new.self.index.entries c.candidates.candidates.items c.in-Some.candidate c.pop_front.new.self.items
      c.in-Some.ensures.items c.answer_read.ensures.kept c.candidates.invariant.have_places;
  room = omega (arith, ap length c.in-Some.ensures.items, c.answer_read.ensures.longer, c.answer_read.ensures.room, c.candidates.invariant.room);
  answers_room = omega (arith, ap length c.in-Some.ensures.items, c.push_reserved.ensures.len, c.push_reserved.ensures.capacity, c.candidates.invariant.answers_room);
  answers = step_answers c.candidates.answers.items c.push_reserved.new.self.items _ (history_of c.candidates.self) (history_of c.answer_read.new.self) c.candidates.candidates.items c.in-Some.candidate c.pop_front.new.self.items c.answer_read.result
      c.in-Some.ensures.items c.answer_read.ensures.answer c.answer_read.ensures.history c.push_reserved.ensures.items c.candidates.invariant.answers;
  sayable = λ before. step_sayable c.candidates.answers.items c.push_reserved.new.self.items c.answer_read.result c.push_reserved.ensures.items
      (c.candidates.invariant.sayable before) c.answer_read.ensures.sayable;
  history = step_history _ (history_of c.candidates.self) (history_of c.answer_read.new.self) c.candidates.candidates.items c.in-Some.candidate c.pop_front.new.self.items
      c.in-Some.ensures.items c.answer_read.ensures.history c.candidates.invariant.history;
}

pub returns-clause-answers : goal.returns-clause-answers
returns-clause-answers c =
    end_answers c.candidates.answers.items _ (history_of c.candidates.self) c.candidates.candidates.items c.pop_front.new.self.items c.in_default.ensures.items c.in_default.ensures.rest c.candidates.invariant.answers

pub returns-clause-history : goal.returns-clause-history
returns-clause-history c =
    end_history (history_of c.candidates.self) _ c.candidates.candidates.items c.pop_front.new.self.items c.in_default.ensures.items c.in_default.ensures.rest c.candidates.invariant.history
