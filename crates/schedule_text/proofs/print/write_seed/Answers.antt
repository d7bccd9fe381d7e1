use Rattle.std.proofs.lemmas.Result.{on_ok_weaker}
use Rattle.schedule_text.proofs.Printed.{seed_printed}
use Rattle.schedule_text.proofs.print.write_seed.Goals as goal

pub returns-clause-ok : goal.returns-clause-ok
returns-clause-ok c =
    on_ok_weaker c.write_number_line.result (λ ok. seed_printed c.args.out.now.items c.write_number_line.new.out.items c.args.seed c.if-seed-eq0.false ok) c.write_number_line.ensures.ok
