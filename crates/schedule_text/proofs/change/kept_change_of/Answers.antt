use Rattle.std.proofs.Common.{◌≡◌, ◌∙◌, ap, refl, ℕ, List, [], ◌∷◌, codes}
use Rattle.schedule_text.specs.Grammar.{kept_forms, change_forms, set_forms, newer_forms, delete_forms}
use Rattle.schedule_text.specs.Lines.{change_words, kept_word}
use Rattle.schedule_text.specs.Reading.{IsFaultIn}
use Rattle.schedule_text.specs.Refusals.{words_of}
use Rattle.schedule_text.proofs.Forms.{no_form}
use Rattle.schedule_text.proofs.Readings.{err_match, kept_fault, kept_words}
use Rattle.schedule_text.proofs.change.kept_change_of.Goals as goal

pub returns-in_default : goal.returns-in_default
unfolding kept_forms change_forms set_forms newer_forms delete_forms
returns-in_default c =
    let kept = c.in_default.ensures.0 in
    let lost = c.in_default.ensures.1 in
    no_form c.args.line.now kept_forms (kept, (kept, (kept, (kept, (kept, (kept, (lost, (lost, (lost, (lost, (lost, (lost, tt))))))))))))

pub returns-in_err-edit : goal.returns-in_err-edit
returns-in_err-edit c =
    let fault = c.in_err-edit.field-0.0 in
    err_match _ (λ f. IsFaultIn kept_forms (words_of c.args.line.now) f) c.from_residual.result fault c.from_residual.ensures.1
    (kept_fault c.in-Some.kept c.args.line.now c.in-Some.rest.now fault c.in-Some.ensures c.in_err-edit.ensures)

pub returns : goal.returns
returns c =
    (c.in_ok-edit.ensures.0, kept_words c.in-Some.kept c.args.line.now c.in-Some.rest.now c.in-Some.ensures ∙ ap (λ (ws : List (List ℕ)). kept_word c.in-Some.kept ∷ ws) c.in_ok-edit.ensures.1)
