use Rattle.std.proofs.Common.{refl, [], ◌∷◌, codes}
use Rattle.schedule_text.specs.Grammar.{change_forms, set_forms, newer_forms, delete_forms}
use Rattle.schedule_text.specs.Lines.{change_words}
use Rattle.schedule_text.specs.Spelling.{IsChange}
use Rattle.schedule_text.proofs.Forms.{no_form}
use Rattle.schedule_text.proofs.Readings.{reads_after, no_space_by_test}
use Rattle.schedule_text.proofs.change.change_of.Goals as goal

pub returns-in-Some : goal.returns-in-Some
unfolding change_forms set_forms newer_forms delete_forms
returns-in-Some c =
    reads_after [] (codes "set") change_forms IsChange change_words c.args.line.now c.in-Some.rest.now c.set_of.result (no_space_by_test (codes "set") refl) refl c.in-Some.ensures c.set_of.ensures

pub returns-in-Some-after : goal.returns-in-Some-after
unfolding change_forms set_forms newer_forms delete_forms
returns-in-Some-after c =
    reads_after [] (codes "newer") change_forms IsChange change_words c.args.line.now c.in-Some-after.rest.now c.newer_of.result (no_space_by_test (codes "newer") refl) refl c.in-Some-after.ensures c.newer_of.ensures

pub returns-in-Some-after-2 : goal.returns-in-Some-after-2
unfolding change_forms set_forms newer_forms delete_forms
returns-in-Some-after-2 c =
    reads_after [] (codes "del") change_forms IsChange change_words c.args.line.now c.in-Some-after-2.rest.now c.delete_of.result (no_space_by_test (codes "del") refl) refl c.in-Some-after-2.ensures c.delete_of.ensures

pub returns : goal.returns
unfolding change_forms set_forms newer_forms delete_forms
returns c =
    let set = c.in_default.ensures in
    let newer = c.in_default-after.ensures in
    let del = c.in_default-after-2.ensures in
    no_form c.args.line.now change_forms (set, (set, (newer, (newer, (del, (del, tt))))))
