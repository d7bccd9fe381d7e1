use Rattle.std.proofs.Common.{◌≡◌, ◌≤◌, ◌+◌, length}
use Rattle.std.specs.Option.{option_copied}
use Rattle.sync_model.specs.Offers.{reseal_count}
use Rattle.type_processor.proofs.counts.reseal_count.Given as goal

abbrev pub invariant-keys : goal.invariant-keys
invariant-keys l = record {
  counts : l.count + reseal_count (option_copied l.wanted) l.keys ≡ reseal_count (option_copied l.wanted) l.trackers;
  within : l.count + length l.keys ≤ l.total;
}

abbrev pub decreases-keys : goal.decreases-keys
decreases-keys l = length l.keys
