use Rattle.std.proofs.Common.{◌-◌, ◌≤◌, length, take}
use Rattle.wire_format.specs.Faults.{AreOpen}
use Rattle.wire_format.proofs.walk.Walk.advance.Given as goal

abbrev pub invariant-loop-self : goal.invariant-loop-self
invariant-loop-self l = record {
  inside : l.self-inside.at ≤ length l.bytes;
  are_open : AreOpen 32 l.self-inside.groups.items (take l.self-inside.at l.bytes);
}

abbrev pub decreases-loop-self : goal.decreases-loop-self
decreases-loop-self l = length l.bytes - l.self-inside.at
