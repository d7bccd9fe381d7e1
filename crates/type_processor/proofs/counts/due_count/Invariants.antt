use Rattle.std.proofs.Common.{◌≡◌, ◌≤◌, ◌+◌, length}
use Rattle.sync_model.specs.Sides.{due_count}
use Rattle.type_processor.proofs.counts.due_count.Given as goal

abbrev pub invariant-keys : goal.invariant-keys
invariant-keys l = record {
  counts : l.count + due_count l.keys ≡ due_count l.trackers;
  within : l.count + length l.keys ≤ l.total;
}

abbrev pub decreases-keys : goal.decreases-keys
decreases-keys l = length l.keys
