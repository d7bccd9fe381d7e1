use Rattle.std.proofs.Common.{take}
use Rattle.sync_messages.specs.Lengths.{IsLength}
use Rattle.sync_messages.specs.Spellings.{answers_bytes}
use Rattle.sync_messages.proofs.message_len.answers_len.Given as goal

abbrev pub invariant-loop-answer : goal.invariant-loop-answer
invariant-loop-answer l = IsLength l.total (answers_bytes (take l.answer-index l.answers))
