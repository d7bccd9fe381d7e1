use Rattle.std.proofs.Common.{◌≡◌, ◌∙◌, ap, refl, ℕ, List, [], ◌∷◌, codes}
use Rattle.schedule_text.specs.Grammar.{site_form}
use Rattle.schedule_text.specs.Lines.{change_words}
use Rattle.schedule_text.specs.Reading.{IsFaultIn}
use Rattle.schedule_text.specs.Refusals.{words_of}
use Rattle.schedule_text.proofs.Forms.{words_fault}
use Rattle.schedule_text.proofs.Readings.{err_match, no_site, no_site_of}
use Rattle.schedule_text.proofs.change.delete_password.Goals as goal

pub returns-in_default : goal.returns-in_default
returns-in_default c = no_site (words_of c.args.line.now) c.in_default.ensures

pub returns-in_default-one_word : goal.returns-in_default-one_word
returns-in_default-one_word c =
    no_site_of (words_of c.args.line.now) (words_of c.in-Some.rest.now) c.in-Some.origin.now c.in-Some.user_element.now c.in-Some.user_value.now c.in-Some.pass_element.now c.in-Some.ensures c.in_default-one_word.ensures

pub returns-in_err-site : goal.returns-in_err-site
returns-in_err-site c =
    let o = c.in-Some.origin.now in
    let e = c.in-Some.user_element.now in
    let v = c.in-Some.user_value.now in
    let p = c.in-Some.pass_element.now in
    let r = c.in-Some-one_word.realm.now in
    let fault = c.in_err-site.field-0.0 in
    err_match _ (λ f. IsFaultIn (site_form ∷ []) (words_of c.args.line.now) f) c.from_residual.result fault c.from_residual.ensures.1
    (words_fault (words_of c.args.line.now) (o ∷ e ∷ v ∷ p ∷ r ∷ []) site_form fault (c.in-Some.ensures ∙ ap (λ (ws : List (List ℕ)). o ∷ e ∷ v ∷ p ∷ ws) c.in-Some-one_word.ensures) refl c.in_err-site.ensures)

pub returns : goal.returns
unfolding change_words
returns c =
    let front : List (List ℕ) → List (List ℕ) = λ ws. c.in-Some.origin.now ∷ c.in-Some.user_element.now ∷ c.in-Some.user_value.now ∷ c.in-Some.pass_element.now ∷ ws in
    (c.in_ok-site.ensures.0, ap (λ (ws : List (List ℕ)). codes "del" ∷ codes "password" ∷ ws) (c.in-Some.ensures ∙ ap front c.in-Some-one_word.ensures ∙ c.in_ok-site.ensures.1))
