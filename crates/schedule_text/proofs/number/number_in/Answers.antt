use Rattle.std.proofs.Common.{refl, arith}
use Rattle.schedule_text.proofs.Numerals.{is_its_decimal}
use Rattle.schedule_text.proofs.number.number_in.Goals as goal

pub returns-in-Some : goal.returns-in-Some
returns-in-Some c =
    (c.if-low-number.true, c.if-number-high.true, is_its_decimal c.args.word.now c.in-Some.number (c.if-not-is_decimal.ensures.0 refl) c.in-Some.ensures (omega (arith, c.if-number-high.true, c.ranges.high.fits)))
