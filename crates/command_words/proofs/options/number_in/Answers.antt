use Rattle.std.proofs.Common.{◌<◌, ◌^◌, sym, ap, ◌∙◌, arith}
use Rattle.std.specs.Fmt.{decimal}
use Rattle.std.specs.Result.{result_ok}
use Rattle.std.proofs.lemmas.Bool.{false≢true}
use Rattle.std.proofs.lemmas.Fmt.{parse-decimal}
use Rattle.std.proofs.lemmas.Option.{none-some, same_Some}
use Rattle.std.proofs.lemmas.Slice.Eq.{bytes_eq-Decides}
use Rattle.command_words.proofs.options.number_in.Goals.{else-low-number-via-then-low-number+then-number-high+else-eq, else-low-number-via-then-low-number+else-number-high, else-low-number-via-else-low-number}
use Rattle.command_words.proofs.options.number_in.Goals as goal

pub returns-in_err-number : goal.returns-in_err-number
returns-in_err-number c =
    rw c.from_residual.ensures (λ number is low high.
    let fits : number < 2 ^ 64 = omega (arith, high, c.ranges.high.fits) in
    let read = parse-decimal 64 number c.args.word.now c.parse.result fits fits is c.parse.ensures.value.0 in
    none-some _ (c.in_err-number.ensures.value ∙ ap result_ok read))

pub returns-else-low-number : goal.returns-else-low-number
returns-else-low-number c = λ number is low high.
    let fits : number < 2 ^ 64 = omega (arith, high, c.ranges.high.fits) in
    let read = parse-decimal 64 number c.args.word.now c.parse.result fits fits is c.parse.ensures.value.0 in
    let same = same_Some _ _ (c.in_ok-number.ensures.value ∙ ap result_ok read) in
    elim c.else-low-number.branch [
      | else-low-number-via-then-low-number+then-number-high+else-eq w ↦
          false≢true (w.if-eq.ensures ∙ (bytes_eq-Decides w.format.result.now c.args.word.now).1 (w.format.ensures.text ∙ ap decimal same ∙ sym is))
      | else-low-number-via-then-low-number+else-number-high w ↦ omega (arith, same, high, w.if-number-high.false)
      | else-low-number-via-else-low-number w ↦ omega (arith, same, low, w.if-low-number.false)
    ]
