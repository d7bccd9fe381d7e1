use Rattle.std.proofs.Common.{◌≡◌, ◌∙◌, ap, refl, ℕ, List, [], ◌∷◌, codes}
use Rattle.client_tags.specs.declared.Kind.TheVariants.{Preference}
use Rattle.sync_model.specs.Text.{text_word}
use Rattle.schedule_text.specs.Grammar.{Slot, AnyText, AnyExtra}
use Rattle.schedule_text.specs.Lines.{change_words}
use Rattle.schedule_text.specs.Reading.{IsFaultIn}
use Rattle.schedule_text.specs.Refusals.{words_of}
use Rattle.schedule_text.proofs.Forms.{no_form_by_length, words_fault}
use Rattle.schedule_text.proofs.Readings.{err_match, slot_fault, text_is_right}
use Rattle.schedule_text.proofs.change.newer_preference.Goals as goal

pub returns-in_default : goal.returns-in_default
returns-in_default c = no_form_by_length (words_of c.args.line.now) (AnyText ∷ AnyText ∷ AnyExtra Preference ∷ []) c.in_default.ensures

pub returns-in_err-name : goal.returns-in_err-name
returns-in_err-name c =
    let a = c.in-Some.name.now in
    let b = c.in-Some.value.now in
    let x = c.in-Some.extra.now in
    let form : List Slot = AnyText ∷ AnyText ∷ AnyExtra Preference ∷ [] in
    let fault = c.in_err-name.field-0.0 in
    err_match _ (λ f. IsFaultIn (form ∷ []) (words_of c.args.line.now) f) c.from_residual.result fault c.from_residual.ensures.1
    (words_fault (words_of c.args.line.now) (a ∷ b ∷ x ∷ []) form fault c.in-Some.ensures refl
    (slot_fault [] (AnyText ∷ AnyExtra Preference ∷ []) AnyText [] (b ∷ x ∷ []) a fault tt c.in_err-name.ensures))

pub returns-in_err-value : goal.returns-in_err-value
returns-in_err-value c =
    let a = c.in-Some.name.now in
    let b = c.in-Some.value.now in
    let x = c.in-Some.extra.now in
    let form : List Slot = AnyText ∷ AnyText ∷ AnyExtra Preference ∷ [] in
    let fault = c.in_err-value.field-0.0 in
    let right = text_is_right c.in_ok-name.name a c.in_ok-name.ensures.0 c.in_ok-name.ensures.1 in
    err_match _ (λ f. IsFaultIn (form ∷ []) (words_of c.args.line.now) f) c.from_residual-in_err-value.result fault c.from_residual-in_err-value.ensures.1
    (words_fault (words_of c.args.line.now) (a ∷ b ∷ x ∷ []) form fault c.in-Some.ensures refl
    (slot_fault (AnyText ∷ []) (AnyExtra Preference ∷ []) AnyText (a ∷ []) (x ∷ []) b fault (right, tt) c.in_err-value.ensures))

pub returns-in_err-extra : goal.returns-in_err-extra
returns-in_err-extra c =
    let a = c.in-Some.name.now in
    let b = c.in-Some.value.now in
    let x = c.in-Some.extra.now in
    let form : List Slot = AnyText ∷ AnyText ∷ AnyExtra Preference ∷ [] in
    let fault = c.in_err-extra.field-0.0 in
    let right = text_is_right c.in_ok-name.name a c.in_ok-name.ensures.0 c.in_ok-name.ensures.1 in
    let too = text_is_right c.in_ok-value.value b c.in_ok-value.ensures.0 c.in_ok-value.ensures.1 in
    err_match _ (λ f. IsFaultIn (form ∷ []) (words_of c.args.line.now) f) c.from_residual-in_err-extra.result fault c.from_residual-in_err-extra.ensures.1
    (words_fault (words_of c.args.line.now) (a ∷ b ∷ x ∷ []) form fault c.in-Some.ensures refl
    (slot_fault (AnyText ∷ AnyText ∷ []) [] (AnyExtra Preference) (a ∷ b ∷ []) [] x fault (right, (too, tt)) c.in_err-extra.ensures))

pub returns : goal.returns
unfolding change_words
returns c =
    let extra = c.in_ok-extra.ensures in (
      (c.in_ok-name.ensures.0, c.in_ok-value.ensures.0, extra.0, extra.1),
      ap (λ (ws : List (List ℕ)). codes "newer" ∷ codes "preference" ∷ ws)
          (c.in-Some.ensures
          ∙ ap (λ (w : List ℕ). w ∷ c.in-Some.value.now ∷ c.in-Some.extra.now ∷ []) c.in_ok-name.ensures.1
          ∙ ap (λ (w : List ℕ). text_word c.in_ok-name.name ∷ w ∷ c.in-Some.extra.now ∷ []) c.in_ok-value.ensures.1
          ∙ ap (λ (w : List ℕ). text_word c.in_ok-name.name ∷ text_word c.in_ok-value.value ∷ w ∷ []) extra.2),
    )
