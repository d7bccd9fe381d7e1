use Rattle.std.proofs.Common.{◌≡◌, ◌++◌, length, map}
use Rattle.type_processor.specs.Keyed.{key_of}
use Rattle.type_processor.proofs.counts.copied_trackers.Given as goal

abbrev pub invariant-keys : goal.invariant-keys
invariant-keys l = map key_of l.list ++ l.keys ≡ l.trackers

abbrev pub decreases-keys : goal.decreases-keys
decreases-keys l = length l.keys
