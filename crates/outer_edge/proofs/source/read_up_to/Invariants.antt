use Rattle.std.proofs.Common.{◌≡◌, ◌≤◌, ◌+◌, ◌-◌, length}
use Rattle.outer_edge.specs.Source.{Gave}
use Rattle.outer_edge.proofs.source.read_up_to.Given as goal

-- the bytes so far are what the source gave, no fault was counted, and the other side stayed
abbrev pub invariant-loop-bytes : goal.invariant-loop-bytes
invariant-loop-bytes g l = record {
  gave : Gave g.S.Source.left g.S.Source.came l.fn.source l.source l.bytes.items;
  within : length l.bytes.items ≤ l.limit;
  no_fault : g.S.Source.faults l.source ≡ g.S.Source.faults l.fn.source;
  sink_kept : g.S.Source.as_sink l.source ≡ g.S.Source.as_sink l.fn.source;
}

abbrev pub decreases-loop-bytes : goal.decreases-loop-bytes
decreases-loop-bytes g l = l.limit + 1 - length l.bytes.items
