use Rattle.std.proofs.Common.{◌-◌, ◌≤◌, length, take, drop}
use Rattle.wire_format.proofs.GroupLemmas.{IsWithin}
use Rattle.wire_format.proofs.group.group_end.Given as goal

abbrev pub invariant-loop-at : goal.invariant-loop-at
invariant-loop-at l = record {
  inside : l.at ≤ length l.bytes;
  starts : l.start ≤ l.at;
  is_within : IsWithin l.group l.groups.items (drop l.start (take l.at l.bytes));
}

abbrev pub decreases-loop-at : goal.decreases-loop-at
decreases-loop-at l = length l.bytes - l.at
