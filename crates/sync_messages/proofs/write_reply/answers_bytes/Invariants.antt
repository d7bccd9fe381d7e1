use Rattle.std.proofs.Common.{◌≡◌, ◌++◌, drop}
use Rattle.sync_messages.specs.Spellings.{answers_bytes}
use Rattle.sync_messages.proofs.write_reply.answers_bytes.Given as goal

abbrev pub invariant-loop-answer : goal.invariant-loop-answer
invariant-loop-answer l = l.writer ++ answers_bytes (drop l.answer-index l.answers) ≡ answers_bytes l.fn.answers
