use Rattle.std.proofs.Common.{◌≡◌, ◌+◌, ◌-◌, length}
use Rattle.wire_format.specs.Spellings.{least_groups, varint_of}
use Rattle.wire_format.proofs.spelling.varint_len.Given as goal

abbrev pub invariant-loop-len : goal.invariant-loop-len
invariant-loop-len l = l.len + length (least_groups (10 - l.len) l.rest) ≡ 1 + length (varint_of l.value)
