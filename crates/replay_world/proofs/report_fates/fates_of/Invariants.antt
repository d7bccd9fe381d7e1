use Rattle.std.proofs.Common.{drop}
use Rattle.replay_world.specs.Reports.{HasFates}
use Rattle.replay_world.proofs.report_fates.fates_of.Given as goal

abbrev pub invariant-loop-place : goal.invariant-loop-place
invariant-loop-place l = HasFates l.fates.entries (drop l.place l.settlements) l.client l.kind
