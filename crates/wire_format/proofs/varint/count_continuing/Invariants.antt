use Rattle.std.proofs.Common.{◌-◌, ◌≤◌, length, take}
use Rattle.wire_format.specs.Varints.{GoOn}
use Rattle.wire_format.proofs.varint.count_continuing.Given as goal

abbrev pub invariant-loop-count : goal.invariant-loop-count
invariant-loop-count l = record {
  within : l.count ≤ 9;
  inside : l.count ≤ length l.bytes;
  go_on : GoOn (take l.count l.bytes);
}

abbrev pub decreases-loop-count : goal.decreases-loop-count
decreases-loop-count l = 9 - l.count
