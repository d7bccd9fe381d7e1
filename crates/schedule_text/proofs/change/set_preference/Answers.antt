use Rattle.std.proofs.Common.{◌≡◌, ◌∙◌, ap, refl, ℕ, List, [], ◌∷◌, codes}
use Rattle.sync_model.specs.Text.{text_word}
use Rattle.schedule_text.specs.Grammar.{AnyText}
use Rattle.schedule_text.specs.Lines.{change_words}
use Rattle.schedule_text.specs.Reading.{IsFaultIn}
use Rattle.schedule_text.specs.Refusals.{words_of}
use Rattle.schedule_text.proofs.Forms.{no_form_by_length, words_fault}
use Rattle.schedule_text.proofs.Readings.{err_match, slot_fault, text_is_right}
use Rattle.schedule_text.proofs.change.set_preference.Goals as goal

pub returns-in_default : goal.returns-in_default
returns-in_default c = no_form_by_length (words_of c.args.line.now) (AnyText ∷ AnyText ∷ []) c.in_default.ensures

pub returns-in_err-name : goal.returns-in_err-name
returns-in_err-name c =
    let a = c.in-Some.name.now in
    let b = c.in-Some.value.now in
    let fault = c.in_err-name.field-0.0 in
    err_match _ (λ f. IsFaultIn ((AnyText ∷ AnyText ∷ []) ∷ []) (words_of c.args.line.now) f) c.from_residual.result fault c.from_residual.ensures.1
    (words_fault (words_of c.args.line.now) (a ∷ b ∷ []) (AnyText ∷ AnyText ∷ []) fault c.in-Some.ensures refl (slot_fault [] (AnyText ∷ []) AnyText [] (b ∷ []) a fault tt c.in_err-name.ensures))

pub returns-in_err-value : goal.returns-in_err-value
returns-in_err-value c =
    let a = c.in-Some.name.now in
    let b = c.in-Some.value.now in
    let fault = c.in_err-value.field-0.0 in
    let right = text_is_right c.in_ok-name.name a c.in_ok-name.ensures.0 c.in_ok-name.ensures.1 in
    err_match _ (λ f. IsFaultIn ((AnyText ∷ AnyText ∷ []) ∷ []) (words_of c.args.line.now) f) c.from_residual-in_err-value.result fault c.from_residual-in_err-value.ensures.1
    (words_fault (words_of c.args.line.now) (a ∷ b ∷ []) (AnyText ∷ AnyText ∷ []) fault c.in-Some.ensures refl (slot_fault (AnyText ∷ []) [] AnyText (a ∷ []) [] b fault (right, tt) c.in_err-value.ensures))

pub returns : goal.returns
unfolding change_words
returns c = ((c.in_ok-name.ensures.0, c.in_ok-value.ensures.0, c.new-extra.ensures), ap (λ (ws : List (List ℕ)). codes "set" ∷ codes "preference" ∷ ws) (c.in-Some.ensures ∙ ap (λ (w : List ℕ). w ∷ c.in-Some.value.now ∷ []) c.in_ok-name.ensures.1 ∙ ap (λ (w : List ℕ). text_word c.in_ok-name.name ∷ w ∷ []) c.in_ok-value.ensures.1))
