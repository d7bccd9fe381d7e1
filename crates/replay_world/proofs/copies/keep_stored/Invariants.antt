use Rattle.std.proofs.Common.{◌≡◌, ◌≤◌, ◌+◌, ◌++◌, length, vec_len, vec_capacity, drop}
use Rattle.replay_world.specs.Copies.{stored_by}
use Rattle.replay_world.proofs.copies.keep_stored.Given as goal

abbrev pub invariant-loop-answer : goal.invariant-loop-answer
invariant-loop-answer l = record {
  room : vec_len l.writes + length l.entries.items ≤ vec_capacity l.writes;
  stored : l.writes.items ++ stored_by l.entries.items (drop l.answer-index l.answers) ≡ l.initial.writes.items ++ stored_by l.initial.entries.items l.answers;
}
