use Rattle.std.proofs.lemmas.Result.{on_ok_weaker}
use Rattle.schedule_text.specs.Lines.{change_words}
use Rattle.schedule_text.proofs.ScriptPrinted.{bare_printed}
use Rattle.schedule_text.proofs.script_print.write_bare_change.Goals as goal

pub returns : goal.returns
returns c =
    on_ok_weaker c.write_text.result
    (λ ok. bare_printed c.args.out.now.items c.write_text.new.out.items c.new-words.result.items c.write_change.new.out.items c.deref.result.now c.after_first.result.now (change_words c.args.edit.now) c.new-words.ensures.items c.in_ok-write_change.ensures.ok c.deref.ensures.value c.after_first.ensures ok)
    c.write_text.ensures.ok
