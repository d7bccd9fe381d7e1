use Rattle.std.proofs.Common.{◌≡◌, take}
use Rattle.entity_tracker.proofs.offered.copied_offered.Given as goal

abbrev pub invariant-loop-pair : goal.invariant-loop-pair
invariant-loop-pair l = l.copy.items ≡ take l.pair-index l.offered
