use Rattle.std.proofs.Common.{◌≡◌, ◌+◌, ◌*◌, take, arith, sym, ◌∙◌}
use Rattle.std.specs.Str.Parse.{digits_value}
use Rattle.std.proofs.lemmas.Str.Parse.{digit_at}
use Rattle.schedule_text.proofs.Numerals.{value_goes_on, value_is_great, whole_value}
use Rattle.schedule_text.proofs.number.value_of.Goals as goal

pub overflow_sub-byte : goal.overflow_sub-byte
overflow_sub-byte c = let digit = digit_at c.args.word.now c.loop-byte.byte-index c.requires c.loop-byte-test.true in omega (arith, digit)

pub returns-in_err-number : goal.returns-in_err-number
returns-in_err-number c =
    let word = c.args.word.now in
    let i = c.loop-byte.byte-index in
    rw c.from_residual.ensures (value_is_great word (i + 1) (10 * c.loop-byte.number + c.from.result) c.in_err-number.ensures (value_goes_on word i c.loop-byte.number c.from.result c.loop-byte-test.true c.requires c.from.ensures c.loop-byte.invariant))

pub loop-byte-preserved : goal.loop-byte-preserved
loop-byte-preserved c =
    c.in_ok-number.ensures ∙ value_goes_on c.args.word.now c.loop-byte.byte-index c.loop-byte.number c.from.result c.loop-byte-test.true c.requires c.from.ensures c.loop-byte.invariant

pub returns : goal.returns
returns c = whole_value c.args.word.now c.loop-byte.byte-index c.loop-byte.number c.loop-byte-test.false c.loop-byte.invariant
