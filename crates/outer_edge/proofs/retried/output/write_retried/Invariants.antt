use Rattle.std.proofs.Common.{◌≡◌, ◌≤◌}
use Rattle.outer_edge.proofs.retried.output.write_retried.Given as goal

-- calls were interrupted as often as the loop has run, and nothing else has happened
abbrev pub invariant-loop-interrupted : goal.invariant-loop-interrupted
invariant-loop-interrupted g l = record {
  none_taken : g.C.OutputCalls.taken l.calls ≡ g.C.OutputCalls.taken l.fn.calls;
  no_failure : (g.C.OutputCalls.counts l.calls).failures ≡ (g.C.OutputCalls.counts l.fn.calls).failures;
  interrupted : l._interrupted ≤ (g.C.OutputCalls.counts l.calls).interruptions;
}
