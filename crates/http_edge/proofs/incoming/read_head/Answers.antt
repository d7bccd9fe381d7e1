use Rattle.std.proofs.Common.{rules, arith, sym, subst}
use Rattle.std.proofs.lemmas.Grind.{common_steps}
use Rattle.http_edge.specs.Heads.{HasNoEmptyLine}
use Rattle.http_edge.proofs.EmptyLines.{none_in_no_bytes}
use Rattle.http_edge.proofs.incoming.read_head.Goals as goal

pub loop-link-init : goal.loop-link-init
loop-link-init g c = record {
  gave = search rules;
  endless = subst HasNoEmptyLine (sym c.in_ok-head.ensures.items) none_in_no_bytes;
  fits = grind (arith, common_steps);
  room = grind (arith, common_steps);
  no_fault = search rules;
  sink_kept = search rules;
}
