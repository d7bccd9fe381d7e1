use Rattle.std.proofs.lemmas.Result.{on_ok_weaker}
use Rattle.schedule_text.proofs.Printed.{login_printed}
use Rattle.schedule_text.proofs.print.write_login.Goals as goal

pub returns-clause-ok : goal.returns-clause-ok
returns-clause-ok c =
    on_ok_weaker c.write_secret.result (λ ok. login_printed c.args.out.now.items c.write_site.new.out.items c.write_secret.new.out.items c.args.password.now c.in_ok-write_site.ensures.ok ok) c.write_secret.ensures.ok
