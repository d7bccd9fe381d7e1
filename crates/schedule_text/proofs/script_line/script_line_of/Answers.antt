use Rattle.std.proofs.Common.{ap, refl, [], codes}
use Rattle.schedule_text.specs.Grammar.{change_forms, delete_forms, newer_forms, set_forms}
use Rattle.schedule_text.specs.Refusals.{words_of}
use Rattle.schedule_text.specs.ScriptRefusals.{script_forms}
use Rattle.schedule_text.specs.Scripts.{IsScriptLine, script_words}
use Rattle.schedule_text.proofs.Cuts.{not_same}
use Rattle.schedule_text.proofs.Readings.{no_space_by_test, reads_after}
use Rattle.schedule_text.proofs.ScriptLines.{changes_read}
use Rattle.schedule_text.proofs.script_line.script_line_of.Goals as goal

pub returns-then-are_same : goal.returns-then-are_same
unfolding script_words
returns-then-are_same c = (tt, ap words_of (c.if-are_same.ensures.0 refl))

pub returns-then-are_same-2 : goal.returns-then-are_same-2
unfolding script_words
returns-then-are_same-2 c = (tt, ap words_of (c.if-are_same-2.ensures.0 refl))

pub returns-in-Some : goal.returns-in-Some
unfolding script_forms change_forms set_forms newer_forms delete_forms
returns-in-Some c =
    reads_after [] (codes "setpass") script_forms IsScriptLine script_words c.args.line.now c.in-Some.rest.now c.set_pass.result (no_space_by_test (codes "setpass") refl) refl c.in-Some.ensures c.set_pass.ensures

pub returns-in-Some-after : goal.returns-in-Some-after
unfolding script_forms change_forms set_forms newer_forms delete_forms
returns-in-Some-after c =
    reads_after [] (codes "givepass") script_forms IsScriptLine script_words c.args.line.now c.in-Some-after.rest.now c.give_pass.result (no_space_by_test (codes "givepass") refl) refl c.in-Some-after.ensures c.give_pass.ensures

pub returns : goal.returns
returns c =
    let line = c.args.line.now in
    changes_read line c.change_line.result (not_same line (codes "sync") c.if-are_same.ensures.1) (not_same line (codes "join") c.if-are_same-2.ensures.1) c.in_default.ensures c.in_default-after.ensures c.change_line.ensures
