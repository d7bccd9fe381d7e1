use Rattle.std.proofs.Common.{◌≡◌, ◌∙◌, ap, sym, refl, ℕ, Bool, List, [], ◌∷◌}
use Rattle.std.specs.Fmt.{decimal}
use Rattle.sync_values.specs.declared.edit.Edit.{Edit as Change}
use Rattle.schedule_text.specs.Grammar.{Between, after_slot, change_forms, kept_forms, set_forms, newer_forms, delete_forms}
use Rattle.schedule_text.specs.Lines.{change_words, kept_word}
use Rattle.schedule_text.specs.Spelling.{IsChange}
use Rattle.schedule_text.specs.Reading.{IsFaultIn}
use Rattle.schedule_text.specs.Refusals.{words_of}
use Rattle.schedule_text.proofs.Forms.{number_fault, single_misses}
use Rattle.schedule_text.proofs.Readings.{err_match, fault_of_same, early_is, late_has_form, change_has_form, kept_has_form, fault_in_after_number, read_fault, read_value}
use Rattle.schedule_text.proofs.event.cut_of.Goals as goal

pub returns-in_default : goal.returns-in_default
unfolding kept_forms change_forms set_forms newer_forms delete_forms
returns-in_default c = single_misses (words_of c.args.line.now) (after_slot (Between 1 c.args.clients) kept_forms) c.in_default.ensures refl

pub returns-in-Some-early_fault : goal.returns-in-Some-early_fault
returns-in-Some-early_fault c =
    let forms = after_slot (Between 1 c.args.clients) kept_forms in
    let fault = c.in-Some-early_fault.fault in
    fault_of_same forms (words_of c.args.line.now) (c.in-Some.client.now ∷ words_of c.in-Some.rest.now) fault c.in-Some.ensures
    (early_is c.args.clients c.in-Some.client.now (words_of c.in-Some.rest.now) kept_forms (λ (x : Bool × Change). IsChange x.1) (λ (x : Bool × Change). kept_word x.0 ∷ change_words x.1) c.kept_change_of-change.result fault (sym c.in-Some-early_fault.ensures) c.kept_change_of-change.ensures)

pub returns-in_err-client : goal.returns-in_err-client
returns-in_err-client c =
    let forms = after_slot (Between 1 c.args.clients) kept_forms in
    let fault = c.in_err-client.field-0.0 in
    let has = late_has_form (words_of c.in-Some.rest.now) kept_forms (λ (x : Bool × Change). IsChange x.1) (λ (x : Bool × Change). kept_word x.0 ∷ change_words x.1) c.kept_change_of-change.result (sym c.in_default-early_fault.ensures) (λ v right is. kept_has_form v.0 v.1 (words_of c.in-Some.rest.now) right is) c.kept_change_of-change.ensures in
    err_match _ (λ f. IsFaultIn forms (words_of c.args.line.now) f) c.from_residual.result fault c.from_residual.ensures.1
    (fault_of_same forms (words_of c.args.line.now) (c.in-Some.client.now ∷ words_of c.in-Some.rest.now) fault c.in-Some.ensures
    (number_fault 1 c.args.clients c.in-Some.client.now (words_of c.in-Some.rest.now) kept_forms fault has c.in_err-client.ensures))

pub returns-in_err-kept : goal.returns-in_err-kept
returns-in_err-kept c =
    let forms = after_slot (Between 1 c.args.clients) kept_forms in
    let fault = c.in_err-kept.field-0.0 in
    let client = c.in_ok-client.ensures in
    err_match _ (λ f. IsFaultIn forms (words_of c.args.line.now) f) c.from_residual-in_err-kept.result fault c.from_residual-in_err-kept.ensures.1
    (fault_of_same forms (words_of c.args.line.now) (c.in-Some.client.now ∷ words_of c.in-Some.rest.now) fault c.in-Some.ensures
    (fault_in_after_number c.args.clients c.in-Some.client.now c.in_ok-client.client (words_of c.in-Some.rest.now) kept_forms fault client.0.0 client.0.1 c.ranges.clients.fits client.1
    (read_fault [] kept_forms (λ (x : Bool × Change). IsChange x.1) (λ (x : Bool × Change). kept_word x.0 ∷ change_words x.1) (words_of c.in-Some.rest.now) c.kept_change_of-change.result fault c.in_err-kept.was c.kept_change_of-change.ensures)))

pub returns : goal.returns
returns c =
    let client = c.in_ok-client.ensures in
    let read = read_value [] kept_forms (λ (x : Bool × Change). IsChange x.1) (λ (x : Bool × Change). kept_word x.0 ∷ change_words x.1) (words_of c.in-Some.rest.now) c.kept_change_of-change.result (c.in_ok-kept.kept, c.in_ok-kept.edit) c.in_ok-kept.was c.kept_change_of-change.ensures in
    ((client.0, read.0), c.in-Some.ensures ∙ ap (λ (w : List ℕ). w ∷ words_of c.in-Some.rest.now) client.1 ∙ ap (λ (ws : List (List ℕ)). decimal c.in_ok-client.client ∷ ws) read.1)
