use Rattle.std.proofs.Common.{◌≡◌, take}
use Rattle.loopback_server.specs.declared.write.EntityKey.{EntityKey}
use Rattle.loopback_server.specs.Candidates.{HavePlaces}
use Rattle.loopback_server.specs.Indexes.{version_at}
use Rattle.loopback_server.proofs.store.make_places.Given as goal

abbrev pub invariant-loop-candidate : goal.invariant-loop-candidate
invariant-loop-candidate l = record {
  have_places : HavePlaces l.index.entries (take l.candidate-index l.candidates);
  same : (key : EntityKey) → version_at l.index.entries key ≡ version_at l.initial.index.entries key;
}
