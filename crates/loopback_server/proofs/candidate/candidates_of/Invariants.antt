use Rattle.std.proofs.Common.{◌≡◌, map, take}
use Rattle.loopback_server.specs.Candidates.{entry_read, HaveIds}
use Rattle.replay_messages.specs.Entries.{entry_in}
use Rattle.loopback_server.proofs.candidate.candidates_of.Given as goal

abbrev pub invariant-loop-entity : goal.invariant-loop-entity
invariant-loop-entity l = record {
  entries : map entry_read l.candidates.items ≡ map entry_in (take l.entity-index l.entities);
  ids : HaveIds l.candidates.items;
}
