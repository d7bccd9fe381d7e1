use Rattle.std.proofs.Common.{◌≡◌, ◌++◌, take}
use Rattle.std.specs.List.{flat_map}
use Rattle.replay_world.specs.Reports.{kept_fate}
use Rattle.replay_world.proofs.report_fates.write_fates_by.Given as goal

abbrev pub invariant-loop-item : goal.invariant-loop-item
invariant-loop-item l = l.out.items ≡ l.fn.out.items ++ flat_map (kept_fate l.fates.entries l.client l.kind) (take l.item-index l.happened)
