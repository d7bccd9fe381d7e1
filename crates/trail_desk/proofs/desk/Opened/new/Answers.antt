use Rattle.std.proofs.Common.{◌∙◌, ap}
use Rattle.trail_desk.proofs.desk.Opened.new.Goals as goal

pub invariant_of-result : goal.invariant_of-result
invariant_of-result g c =
    let table = c.in_ok-table.ensures in
    let passes = c.in_ok-passes.ensures in
    record {
      core_is = ap (λ began. began.core) table.3;
      one_word = table.0;
      keeper_is = passes.table ∙ table.1;
      knows = passes.keeper;
      seats = passes.passes;
      empty = c.new.ensures.items;
    }
