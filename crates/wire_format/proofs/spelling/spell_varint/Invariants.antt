use Rattle.std.proofs.Common.{◌≡◌, ◌-◌, ◌≤◌, ◌++◌, length}
use Rattle.wire_format.specs.Spellings.{least_groups, varint_of}
use Rattle.wire_format.proofs.LeastGroups.{Fills}
use Rattle.wire_format.proofs.spelling.spell_varint.Given as goal

abbrev pub invariant-loop-rest : goal.invariant-loop-rest
invariant-loop-rest l = record {
  few : length l.bytes.items ≤ 9;
  spells : l.bytes.items ++ least_groups (9 - length l.bytes.items) l.rest ≡ varint_of l.value;
  fills : Fills (9 - length l.bytes.items) l.rest;
}

abbrev pub decreases-loop-rest : goal.decreases-loop-rest
decreases-loop-rest l = l.rest
