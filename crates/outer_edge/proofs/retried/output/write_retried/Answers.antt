use Rattle.std.proofs.Common.{rules}
use Rattle.outer_edge.proofs.Interruptions.{no_failure_more, interrupted_more}
use Rattle.outer_edge.proofs.retried.output.write_retried.Goals as goal

-- one interrupted call more
pub loop-interrupted-preserved : goal.loop-interrupted-preserved
loop-interrupted-preserved g c = record {
  none_taken = search rules;
  no_failure = no_failure_more _ _ _ _ c.in-Err-Interruption.field-0-is c.in-Err-Interruption.ensures.fault c.loop-interrupted.invariant.no_failure;
  interrupted = interrupted_more _ _ _ _ c.in-Err-Interruption.field-0-is c.in-Err-Interruption.ensures.fault
      c.loop-interrupted.invariant.interrupted c.loop-interrupted-test.true;
}
