use Rattle.std.proofs.Common.{◌≡◌, ◌∙◌, ◌++◌, ap, refl, ℕ, List, [], ◌∷◌, codes}
use Rattle.std.specs.Fmt.{signed_decimal}
use Rattle.std.specs.Int.{cast_signed, w64}
use Rattle.client_tags.specs.declared.Kind.TheVariants.{Password}
use Rattle.sync_model.specs.Text.{text_word}
use Rattle.schedule_text.specs.Grammar.{Slot, Between, AnyText, AnyExtra, site_form, login_form}
use Rattle.schedule_text.specs.Limits.{MAX_DATE}
use Rattle.schedule_text.specs.Lines.{change_words}
use Rattle.schedule_text.specs.Reading.{IsFaultIn}
use Rattle.schedule_text.specs.Refusals.{words_of}
use Rattle.schedule_text.specs.Sites.{site_words}
use Rattle.schedule_text.proofs.Forms.{words_fault}
use Rattle.schedule_text.proofs.Readings.{are_right_on, date_is, err_match, form_fault_before, form_fault_behind, login_words_are, no_newer_login, no_newer_login_of, secret_is_right, site_is_right, slot_fault}
use Rattle.schedule_text.proofs.change.newer_password.Goals as goal

pub returns-in_default : goal.returns-in_default
returns-in_default c = no_newer_login (words_of c.args.line.now) c.in_default.ensures

pub returns-in_default-last_words : goal.returns-in_default-last_words
returns-in_default-last_words c =
    no_newer_login_of (words_of c.args.line.now) (words_of c.in-Some.rest.now) c.in-Some.origin.now c.in-Some.user_element.now c.in-Some.user_value.now c.in-Some.pass_element.now c.in-Some.ensures c.in_default-last_words.ensures

pub returns-in_err-site : goal.returns-in_err-site
returns-in_err-site c =
    let o = c.in-Some.origin.now in
    let e = c.in-Some.user_element.now in
    let v = c.in-Some.user_value.now in
    let p = c.in-Some.pass_element.now in
    let r = c.in-Some-last_words.realm.now in
    let s = c.in-Some-last_words.secret.now in
    let d = c.in-Some-last_words.date.now in
    let x = c.in-Some-last_words.extra.now in
    let form : List Slot = login_form ++ AnyExtra Password ∷ [] in
    let fault = c.in_err-site.field-0.0 in
    err_match _ (λ f. IsFaultIn (form ∷ []) (words_of c.args.line.now) f) c.from_residual.result fault c.from_residual.ensures.1
    (words_fault (words_of c.args.line.now) (o ∷ e ∷ v ∷ p ∷ r ∷ s ∷ d ∷ x ∷ []) form fault (c.in-Some.ensures ∙ ap (λ (ws : List (List ℕ)). o ∷ e ∷ v ∷ p ∷ ws) c.in-Some-last_words.ensures) refl
    (form_fault_before site_form (AnyText ∷ Between 0 MAX_DATE ∷ AnyExtra Password ∷ []) (o ∷ e ∷ v ∷ p ∷ r ∷ []) (s ∷ d ∷ x ∷ []) fault c.in_err-site.ensures))

pub returns-in_err-secret : goal.returns-in_err-secret
returns-in_err-secret c =
    let o = c.in-Some.origin.now in
    let e = c.in-Some.user_element.now in
    let v = c.in-Some.user_value.now in
    let p = c.in-Some.pass_element.now in
    let r = c.in-Some-last_words.realm.now in
    let s = c.in-Some-last_words.secret.now in
    let d = c.in-Some-last_words.date.now in
    let x = c.in-Some-last_words.extra.now in
    let form : List Slot = login_form ++ AnyExtra Password ∷ [] in
    let fault = c.in_err-secret.field-0.0 in
    let right = site_is_right c.in_ok-site.site (o ∷ e ∷ v ∷ p ∷ r ∷ []) c.in_ok-site.ensures.0 c.in_ok-site.ensures.1 in
    err_match _ (λ f. IsFaultIn (form ∷ []) (words_of c.args.line.now) f) c.from_residual-in_err-secret.result fault c.from_residual-in_err-secret.ensures.1
    (words_fault (words_of c.args.line.now) (o ∷ e ∷ v ∷ p ∷ r ∷ s ∷ d ∷ x ∷ []) form fault (c.in-Some.ensures ∙ ap (λ (ws : List (List ℕ)). o ∷ e ∷ v ∷ p ∷ ws) c.in-Some-last_words.ensures) refl
    (form_fault_before login_form (AnyExtra Password ∷ []) (o ∷ e ∷ v ∷ p ∷ r ∷ s ∷ d ∷ []) (x ∷ []) fault
    (form_fault_behind site_form (AnyText ∷ Between 0 MAX_DATE ∷ []) (o ∷ e ∷ v ∷ p ∷ r ∷ []) (s ∷ d ∷ []) fault right c.in_err-secret.ensures)))

pub returns-in_err-extra : goal.returns-in_err-extra
returns-in_err-extra c =
    let o = c.in-Some.origin.now in
    let e = c.in-Some.user_element.now in
    let v = c.in-Some.user_value.now in
    let p = c.in-Some.pass_element.now in
    let r = c.in-Some-last_words.realm.now in
    let s = c.in-Some-last_words.secret.now in
    let d = c.in-Some-last_words.date.now in
    let x = c.in-Some-last_words.extra.now in
    let form : List Slot = login_form ++ AnyExtra Password ∷ [] in
    let fault = c.in_err-extra.field-0.0 in
    let right = site_is_right c.in_ok-site.site (o ∷ e ∷ v ∷ p ∷ r ∷ []) c.in_ok-site.ensures.0 c.in_ok-site.ensures.1 in
    let last = c.in_ok-secret.ensures in
    err_match _ (λ f. IsFaultIn (form ∷ []) (words_of c.args.line.now) f) c.from_residual-in_err-extra.result fault c.from_residual-in_err-extra.ensures.1
    (words_fault (words_of c.args.line.now) (o ∷ e ∷ v ∷ p ∷ r ∷ s ∷ d ∷ x ∷ []) form fault (c.in-Some.ensures ∙ ap (λ (ws : List (List ℕ)). o ∷ e ∷ v ∷ p ∷ ws) c.in-Some-last_words.ensures) refl
    (slot_fault login_form [] (AnyExtra Password) (o ∷ e ∷ v ∷ p ∷ r ∷ s ∷ d ∷ []) [] x fault (are_right_on site_form (o ∷ e ∷ v ∷ p ∷ r ∷ []) (AnyText ∷ Between 0 MAX_DATE ∷ []) (s ∷ d ∷ []) right (secret_is_right c.in_ok-secret.secret c.in_ok-secret.date s d last.0 last.1 last.2 last.3)) c.in_err-extra.ensures))

pub returns : goal.returns
unfolding change_words
returns c =
    let o = c.in-Some.origin.now in
    let e = c.in-Some.user_element.now in
    let v = c.in-Some.user_value.now in
    let p = c.in-Some.pass_element.now in
    let r = c.in-Some-last_words.realm.now in
    let s = c.in-Some-last_words.secret.now in
    let d = c.in-Some-last_words.date.now in
    let x = c.in-Some-last_words.extra.now in
    let site = c.in_ok-site.ensures in
    let last = c.in_ok-secret.ensures in
    let extra = c.in_ok-extra.ensures in (
      ((site.0.0, site.0.1, site.0.2, site.0.3, site.0.4, last.0, date_is c.in_ok-secret.date last.1), extra.0, extra.1),
      ap (λ (ws : List (List ℕ)). codes "newer" ∷ codes "password" ∷ ws)
          (c.in-Some.ensures
          ∙ ap (λ (ws : List (List ℕ)). o ∷ e ∷ v ∷ p ∷ ws) c.in-Some-last_words.ensures
          ∙ ap (λ (ws : List (List ℕ)). ws ++ x ∷ []) (login_words_are o e v p r s d c.in_ok-site.site c.in_ok-secret.secret c.in_ok-secret.date last.1 site.1 last.2 last.3)
          ∙ ap (λ (w : List ℕ). site_words c.in_ok-site.site ++ text_word c.in_ok-secret.secret ∷ signed_decimal (cast_signed w64 c.in_ok-secret.date) ∷ w ∷ []) extra.2),
    )
