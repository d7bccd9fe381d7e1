use Rattle.std.proofs.Common.{◌≡◌, ◌+◌, ◌≤◌, ◌++◌, length, map, take, drop, vec_len, vec_capacity}
use Rattle.sync_model.specs.Worlds.{settlement_of}
use Rattle.replay_client.proofs.side.settle.Given as goal

abbrev pub invariant-loop-note : goal.invariant-loop-note
invariant-loop-note l = record {
  room : vec_len l.settlements + length (drop l.note-index l.notes) ≤ vec_capacity l.settlements;
  settled : l.settlements.items ≡ l.fn.settlements.items ++ map (settlement_of l.client l.kind) (take l.note-index l.notes);
}
