use Rattle.std.proofs.Common.{◌≡◌, ◌∙◌, ap, refl, ℕ, List, [], ◌∷◌, arith}
use Rattle.std.specs.Fmt.{decimal}
use Rattle.schedule_text.specs.Grammar.{Between}
use Rattle.schedule_text.specs.Reading.{IsFaultIn}
use Rattle.schedule_text.specs.Spelling.{IsUpTo}
use Rattle.schedule_text.specs.Refusals.{words_of}
use Rattle.schedule_text.proofs.Forms.{no_form_by_length, words_fault}
use Rattle.schedule_text.proofs.Readings.{err_match, number_is_right, slot_fault}
use Rattle.schedule_text.proofs.number.two_numbers.Goals as goal

pub returns-in_default : goal.returns-in_default
returns-in_default c = no_form_by_length (words_of c.args.line.now) (Between 1 c.args.first_high ∷ Between 1 c.args.second_high ∷ []) c.in_default.ensures

pub returns-in_err-first : goal.returns-in_err-first
returns-in_err-first c =
    let one = Between 1 c.args.first_high in
    let two = Between 1 c.args.second_high in
    let a = c.in-Some.first.now in
    let b = c.in-Some.second.now in
    let fault = c.in_err-first.field-0.0 in
    err_match _ (λ f. IsFaultIn ((one ∷ two ∷ []) ∷ []) (words_of c.args.line.now) f) c.from_residual.result fault c.from_residual.ensures.1
    (words_fault (words_of c.args.line.now) (a ∷ b ∷ []) (one ∷ two ∷ []) fault c.in-Some.ensures refl (slot_fault [] (two ∷ []) one [] (b ∷ []) a fault tt c.in_err-first.ensures))

pub returns-in_err-second : goal.returns-in_err-second
returns-in_err-second c =
    let one = Between 1 c.args.first_high in
    let two = Between 1 c.args.second_high in
    let a = c.in-Some.first.now in
    let b = c.in-Some.second.now in
    let fault = c.in_err-second.field-0.0 in
    let right = number_is_right 1 c.args.first_high c.in_ok-first.first a c.in_ok-first.ensures.0.0 c.in_ok-first.ensures.0.1 (omega (arith, c.in_ok-first.ensures.0.1, c.ranges.first_high.fits)) c.in_ok-first.ensures.1 in
    err_match _ (λ f. IsFaultIn ((one ∷ two ∷ []) ∷ []) (words_of c.args.line.now) f) c.from_residual-in_err-second.result fault c.from_residual-in_err-second.ensures.1
    (words_fault (words_of c.args.line.now) (a ∷ b ∷ []) (one ∷ two ∷ []) fault c.in-Some.ensures refl (slot_fault (one ∷ []) [] two (a ∷ []) [] b fault (right, tt) c.in_err-second.ensures))

pub returns : goal.returns
returns c = (
  c.in_ok-first.ensures.0,
  c.in_ok-second.ensures.0,
  c.in-Some.ensures ∙ ap (λ (w : List ℕ). w ∷ c.in-Some.second.now ∷ []) c.in_ok-first.ensures.1 ∙ ap (λ (w : List ℕ). decimal c.in_ok-first.first ∷ w ∷ []) c.in_ok-second.ensures.1,
)
