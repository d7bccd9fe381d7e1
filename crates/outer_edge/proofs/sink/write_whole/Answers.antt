use Rattle.std.proofs.Common.{rules, arith}
use Rattle.std.proofs.lemmas.Grind.{common_steps}
use Rattle.outer_edge.proofs.Told.{Grew-next}
use Rattle.outer_edge.proofs.sink.write_whole.Goals as goal

-- the bytes that were taken up to here, and then those of this call
pub loop-written-preserved : goal.loop-written-preserved
loop-written-preserved g c = record {
  in_bytes = grind (arith, common_steps);
  took = Grew-next _ _ _ _ _ _ c.loop-written.invariant.in_bytes c.loop-written.invariant.took c.in-Ok.ensures.took;
  no_fault = search rules;
  source_kept = search rules;
}
