use Rattle.std.proofs.Common.{◌-◌, ◌≤◌, length, take}
use Rattle.wire_format.specs.Varints.{GoOn}
use Rattle.message_fields.proofs.read.varint_len.Given as goal

abbrev pub invariant-loop-count : goal.invariant-loop-count
invariant-loop-count l = (l.count ≤ length l.bytes) × GoOn (take l.count l.bytes)

abbrev pub decreases-loop-count : goal.decreases-loop-count
decreases-loop-count l = length l.bytes - l.count
