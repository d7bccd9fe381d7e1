use Rattle.std.proofs.lemmas.Result.{on_ok_weaker}
use Rattle.schedule_text.proofs.Printed.{set_printed}
use Rattle.schedule_text.proofs.print.write_set_login.Goals as goal

pub returns-clause-ok : goal.returns-clause-ok
returns-clause-ok c =
    on_ok_weaker c.write_login.result (λ ok. set_printed c.args.out.now.items c.write_text.new.out.items c.write_login.new.out.items c.args.password.now c.in_ok-write_text.ensures.ok ok) c.write_login.ensures.ok
