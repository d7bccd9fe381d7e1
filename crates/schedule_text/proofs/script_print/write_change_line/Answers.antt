use Rattle.std.proofs.lemmas.Result.{on_ok_weaker}
use Rattle.schedule_text.proofs.ScriptPrinted.{change_line_printed}
use Rattle.schedule_text.proofs.script_print.write_change_line.Goals as goal

pub returns : goal.returns
returns c =
    on_ok_weaker c.write_text.result
    (λ ok. change_line_printed c.args.out.now.items c.write_bare_change.new.out.items c.write_text.new.out.items c.args.edit.now c.in_ok-write_bare_change.ensures ok)
    c.write_text.ensures.ok
