use Rattle.std.proofs.Common.{Some, ℕ, subst}
use Rattle.schedule_text.specs.Grammar.{event_forms, forms_after}
use Rattle.schedule_text.specs.Spelling.{IsEvent}
use Rattle.schedule_text.specs.Lines.{line_words}
use Rattle.schedule_text.specs.Reading.{IsFaultIn}
use Rattle.schedule_text.specs.Refusals.{words_of}
use Rattle.schedule_text.proofs.Readings.{err_match}
use Rattle.schedule_text.proofs.LineReadings.{event_fault, pass_fault, seed_fault}
use Rattle.schedule_text.proofs.place.line_of.Goals as goal

pub returns-in_err-seed_of : goal.returns-in_err-seed_of
returns-in_err-seed_of c =
    let fault = c.in_err-seed_of.field-0.0 in
    err_match _ (λ f. IsFaultIn (forms_after (Some c.args.before.now)) (words_of c.args.line.now) f) c.from_residual.result fault c.from_residual.ensures.1
    (seed_fault c.args.before.now c.args.line.now c.in-Some.rest.now fault c.in-Some.ensures.0 c.in-Some.ensures.1 c.in_err-seed_of.ensures)

pub returns-in_err-pass_of : goal.returns-in_err-pass_of
returns-in_err-pass_of c =
    let fault = c.in_err-pass_of.field-0.0 in
    err_match _ (λ f. IsFaultIn (forms_after (Some c.args.before.now)) (words_of c.args.line.now) f) c.from_residual-in_err-pass_of.result fault c.from_residual-in_err-pass_of.ensures.1
    (pass_fault c.args.before.now c.args.line.now c.in-Some-after_pass.rest.now fault c.in-Some-after_pass.ensures.0 c.in-Some-after_pass.ensures.1 c.in_err-pass_of.ensures)

pub returns-in_err-event : goal.returns-in_err-event
returns-in_err-event c =
    let fault = c.in_err-event.field-0.0 in
    err_match _ (λ f. IsFaultIn (forms_after (Some c.args.before.now)) (words_of c.args.line.now) f) c.from_residual-in_err-event.result fault c.from_residual-in_err-event.ensures.1
    (event_fault c.args.before.now c.args.line.now fault c.in_default.ensures c.in_default-after_pass.ensures
    (subst (λ (n : ℕ). IsFaultIn (event_forms c.args.before.now.clients n) (words_of c.args.line.now) fault) c.len.ensures c.in_err-event.ensures))

pub returns : goal.returns
unfolding line_words
returns c = (subst (λ (n : ℕ). IsEvent c.args.before.now.clients n c.in_ok-event.event) c.len.ensures c.in_ok-event.ensures.0, c.in_ok-event.ensures.1)
