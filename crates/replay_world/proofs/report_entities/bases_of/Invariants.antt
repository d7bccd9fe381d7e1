use Rattle.std.proofs.Common.{◌≡◌, length, take}
use Rattle.std.specs.Prelude.{reverse}
use Rattle.replay_world.specs.Reports.{HasBases}
use Rattle.replay_world.proofs.report_entities.bases_of.Given as goal

abbrev pub invariant-loop-write : goal.invariant-loop-write
invariant-loop-write l = record {
  long : length l.bases.items ≡ length l.writes;
  bases : HasBases l.bases.items (reverse (take l.write-index l.writes));
}
