use Rattle.std.proofs.Common.{◌≡◌, drop}
use Rattle.wire_format.specs.Varints.{groups_value}
use Rattle.wire_format.proofs.varint.groups_value.Given as goal

abbrev pub invariant-loop-place : goal.invariant-loop-place
invariant-loop-place l = l.value ≡ groups_value (drop l.place l.bytes)
