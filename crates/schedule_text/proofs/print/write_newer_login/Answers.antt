use Rattle.std.proofs.lemmas.Result.{on_ok_weaker}
use Rattle.schedule_text.proofs.Printed.{newer_printed}
use Rattle.schedule_text.proofs.print.write_newer_login.Goals as goal

pub returns-clause-ok : goal.returns-clause-ok
returns-clause-ok c =
    on_ok_weaker c.write_extra.result (λ ok. newer_printed c.args.out.now.items c.write_text.new.out.items c.write_login.new.out.items c.write_extra.new.out.items c.args.password.now c.in_ok-write_text.ensures.ok c.in_ok-write_login.ensures.ok ok) c.write_extra.ensures.ok
