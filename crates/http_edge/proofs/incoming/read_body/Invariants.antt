use Rattle.std.proofs.Common.{◌≡◌, ◌≤◌, ◌-◌, length}
use Rattle.outer_edge.specs.Source.{Gave}
use Rattle.http_edge.proofs.incoming.read_body.Given as goal

-- the bytes so far are what the link gave, and no more than are wanted
abbrev pub invariant-loop-link : goal.invariant-loop-link
invariant-loop-link g l = record {
  gave : Gave g.L.Source.left g.L.Source.came l.fn.link l.link l.body.items;
  within : length l.body.items ≤ l.count;
  no_fault : g.L.Source.faults l.link ≡ g.L.Source.faults l.fn.link;
  sink_kept : g.L.Source.as_sink l.link ≡ g.L.Source.as_sink l.fn.link;
}

abbrev pub decreases-loop-link : goal.decreases-loop-link
decreases-loop-link g l = l.count - length l.body.items
