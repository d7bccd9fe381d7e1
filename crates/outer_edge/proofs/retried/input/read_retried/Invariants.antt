use Rattle.std.proofs.Common.{◌≡◌, ◌≤◌}
use Rattle.outer_edge.proofs.retried.input.read_retried.Given as goal

-- calls were interrupted as often as the loop has run, and nothing else has happened
abbrev pub invariant-loop-interrupted : goal.invariant-loop-interrupted
invariant-loop-interrupted g l = record {
  none_lost : g.C.InputCalls.left l.calls ≡ g.C.InputCalls.left l.fn.calls;
  none_came : g.C.InputCalls.came l.calls ≡ g.C.InputCalls.came l.fn.calls;
  room_kept : l.room ≡ l.fn.room;
  no_failure : (g.C.InputCalls.counts l.calls).failures ≡ (g.C.InputCalls.counts l.fn.calls).failures;
  interrupted : l._interrupted ≤ (g.C.InputCalls.counts l.calls).interruptions;
}
