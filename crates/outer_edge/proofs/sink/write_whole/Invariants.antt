use Rattle.std.proofs.Common.{◌≡◌, ◌≤◌, length, take, ◌-◌}
use Rattle.outer_edge.specs.Source.{Grew}
use Rattle.outer_edge.proofs.sink.write_whole.Given as goal

-- the sink took the bytes up to here, no fault was counted, and the other side stayed
abbrev pub invariant-loop-written : goal.invariant-loop-written
invariant-loop-written g l = record {
  in_bytes : l.written ≤ length l.bytes;
  took : Grew (g.O.Sink.taken l.fn.sink) (g.O.Sink.taken l.sink) (take l.written l.bytes);
  no_fault : g.O.Sink.faults l.sink ≡ g.O.Sink.faults l.fn.sink;
  source_kept : g.O.Sink.as_source l.sink ≡ g.O.Sink.as_source l.fn.sink;
}

abbrev pub decreases-loop-written : goal.decreases-loop-written
decreases-loop-written g l = length l.bytes - l.written
