use Rattle.std.proofs.Common.{refl, [], ◌∷◌, codes}
use Rattle.schedule_text.specs.Grammar.{AnyText, newer_forms}
use Rattle.schedule_text.specs.Lines.{change_words}
use Rattle.schedule_text.specs.Spelling.{IsChange}
use Rattle.schedule_text.proofs.Forms.{no_form}
use Rattle.schedule_text.proofs.Readings.{reads_after, no_space_by_test}
use Rattle.schedule_text.proofs.change.newer_of.Goals as goal

pub returns-in-Some : goal.returns-in-Some
unfolding newer_forms
returns-in-Some c =
    reads_after (codes "newer" ∷ []) (codes "preference") newer_forms IsChange change_words c.args.line.now c.in-Some.rest.now c.newer_preference.result (no_space_by_test (codes "preference") refl) refl c.in-Some.ensures c.newer_preference.ensures

pub returns-in-Some-after : goal.returns-in-Some-after
unfolding newer_forms
returns-in-Some-after c =
    reads_after (codes "newer" ∷ []) (codes "password") newer_forms IsChange change_words c.args.line.now c.in-Some-after.rest.now c.newer_password.result (no_space_by_test (codes "password") refl) refl c.in-Some-after.ensures c.newer_password.ensures

pub returns : goal.returns
unfolding newer_forms
returns c = no_form c.args.line.now newer_forms (c.in_default.ensures, (c.in_default-after.ensures, tt))
