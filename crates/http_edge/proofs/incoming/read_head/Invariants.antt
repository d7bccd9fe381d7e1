use Rattle.std.proofs.Common.{◌≡◌, ◌≤◌, ◌-◌, length, vec_capacity}
use Rattle.outer_edge.specs.Source.{Gave}
use Rattle.http_edge.specs.Heads.{longest_head, HasNoEmptyLine}
use Rattle.http_edge.proofs.incoming.read_head.Given as goal

-- the bytes so far are what the link gave, no head ends in them, and there is room for the rest
abbrev pub invariant-loop-link : goal.invariant-loop-link
invariant-loop-link g l = record {
  gave : Gave g.L.Source.left g.L.Source.came l.fn.link l.link l.head.items;
  endless : HasNoEmptyLine l.head.items;
  fits : length l.head.items ≤ longest_head;
  room : longest_head ≤ vec_capacity l.head;
  no_fault : g.L.Source.faults l.link ≡ g.L.Source.faults l.fn.link;
  sink_kept : g.L.Source.as_sink l.link ≡ g.L.Source.as_sink l.fn.link;
}

abbrev pub decreases-loop-link : goal.decreases-loop-link
decreases-loop-link g l = longest_head - length l.head.items
