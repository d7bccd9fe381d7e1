use Rattle.std.proofs.Common.{◌≡◌, ◌∙◌, ap, refl, ℕ, List, [], ◌∷◌}
use Rattle.std.specs.Fmt.{decimal}
use Rattle.schedule_text.specs.Grammar.{Between, after_slot, kind_forms}
use Rattle.schedule_text.specs.Reading.{IsFaultIn}
use Rattle.schedule_text.specs.Refusals.{words_of}
use Rattle.schedule_text.proofs.Forms.{form_after_number, number_fault, single_misses}
use Rattle.schedule_text.proofs.KindWords.{kind_has_form}
use Rattle.schedule_text.proofs.Readings.{err_match, fault_of_same}
use Rattle.schedule_text.proofs.event.client_and_kind.Goals as goal

pub returns-in_default : goal.returns-in_default
unfolding kind_forms
returns-in_default c = single_misses (words_of c.args.line.now) (after_slot (Between 1 c.args.clients) kind_forms) c.in_default.ensures refl

pub returns-in_default-kind_of : goal.returns-in_default-kind_of
returns-in_default-kind_of c =
    rw c.in-Some.ensures (form_after_number 1 c.args.clients c.in-Some.client.now (words_of c.in-Some.rest.now) kind_forms c.in_default-kind_of.ensures)

pub returns-in_err-client : goal.returns-in_err-client
returns-in_err-client c =
    let forms = after_slot (Between 1 c.args.clients) kind_forms in
    let fault = c.in_err-client.field-0.0 in
    let has = kind_has_form (words_of c.in-Some.rest.now) c.in-Some-kind_of.kind c.in-Some-kind_of.ensures in
    err_match _ (λ f. IsFaultIn forms (words_of c.args.line.now) f) c.from_residual.result fault c.from_residual.ensures.1
    (fault_of_same forms (words_of c.args.line.now) (c.in-Some.client.now ∷ words_of c.in-Some.rest.now) fault c.in-Some.ensures
    (number_fault 1 c.args.clients c.in-Some.client.now (words_of c.in-Some.rest.now) kind_forms fault has c.in_err-client.ensures))

pub returns : goal.returns
returns c =
    (c.in_ok-client.ensures.0, c.in-Some.ensures ∙ ap (λ (w : List ℕ). w ∷ words_of c.in-Some.rest.now) c.in_ok-client.ensures.1 ∙ ap (λ (ws : List (List ℕ)). decimal c.in_ok-client.client ∷ ws) c.in-Some-kind_of.ensures)
