use Rattle.std.proofs.Common.{arith, refl}
use Rattle.schedule_text.proofs.Numerals.{no_digits, digits_go_on, whole_digits}
use Rattle.schedule_text.proofs.number.are_digits.Goals as goal

pub returns-then-not-is_ascii_digit : goal.returns-then-not-is_ascii_digit
returns-then-not-is_ascii_digit c =
    (λ e. absurd cc, no_digits c.args.word.now c.loop-byte.byte-index c.loop-byte-test.true (λ range. omega (arith, range, c.if-not-is_ascii_digit.ensures.cases)))

pub loop-byte-preserved : goal.loop-byte-preserved
loop-byte-preserved c = digits_go_on c.args.word.now c.loop-byte.byte-index c.loop-byte-test.true c.if-not-is_ascii_digit.ensures.cases c.loop-byte.invariant

pub returns : goal.returns
returns c = (λ e. whole_digits c.args.word.now c.loop-byte.byte-index c.loop-byte-test.false c.loop-byte.invariant, λ d. refl)
