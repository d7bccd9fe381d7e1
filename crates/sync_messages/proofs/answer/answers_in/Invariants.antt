use Rattle.sync_messages.proofs.ListLemmas.{AnswersSoFar}
use Rattle.sync_messages.proofs.answer.answers_in.Given as goal

abbrev pub invariant-loop-part : goal.invariant-loop-part
invariant-loop-part l = AnswersSoFar l.input l.parts l.part-index l.fault l.answers.items
