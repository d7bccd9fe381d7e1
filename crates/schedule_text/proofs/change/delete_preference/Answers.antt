use Rattle.std.proofs.Common.{◌≡◌, ◌∙◌, ap, refl, ℕ, List, [], ◌∷◌, codes}
use Rattle.sync_model.specs.Text.{text_word}
use Rattle.schedule_text.specs.Grammar.{AnyText}
use Rattle.schedule_text.specs.Lines.{change_words}
use Rattle.schedule_text.specs.Reading.{IsFaultIn}
use Rattle.schedule_text.specs.Refusals.{words_of}
use Rattle.schedule_text.proofs.Forms.{no_form_by_length, one_text_fault}
use Rattle.schedule_text.proofs.Readings.{err_match, fault_of_same}
use Rattle.schedule_text.proofs.change.delete_preference.Goals as goal

pub returns-in_default : goal.returns-in_default
returns-in_default c = no_form_by_length (words_of c.args.line.now) (AnyText ∷ []) c.in_default.ensures

pub returns-in_err-name : goal.returns-in_err-name
returns-in_err-name c =
    let a = c.in-Some.name.now in
    let fault = c.in_err-name.field-0.0 in
    err_match _ (λ f. IsFaultIn ((AnyText ∷ []) ∷ []) (words_of c.args.line.now) f) c.from_residual.result fault c.from_residual.ensures.1
    (fault_of_same ((AnyText ∷ []) ∷ []) (words_of c.args.line.now) (a ∷ []) fault c.in-Some.ensures (one_text_fault a fault c.in_err-name.ensures))

pub returns : goal.returns
unfolding change_words
returns c = (c.in_ok-name.ensures.0, ap (λ (ws : List (List ℕ)). codes "del" ∷ codes "preference" ∷ ws) (c.in-Some.ensures ∙ ap (λ (w : List ℕ). w ∷ []) c.in_ok-name.ensures.1))
