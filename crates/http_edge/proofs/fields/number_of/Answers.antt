use Rattle.std.proofs.Common.{arith}
use Rattle.http_edge.proofs.Numbers.{digits_fit, next_digit}
use Rattle.http_edge.proofs.fields.number_of.Goals as goal

pub overflow_mul-number : goal.overflow_mul-number
overflow_mul-number c = let fits = digits_fit c.args.text.now c.loop-digit.digit-index c.requires in grind (arith, fits, c.loop-digit.invariant)

pub overflow_add-number : goal.overflow_add-number
overflow_add-number c = let fits = digits_fit c.args.text.now c.loop-digit.digit-index c.requires in grind (arith, fits, c.loop-digit.invariant)

pub loop-digit-preserved : goal.loop-digit-preserved
loop-digit-preserved c =
    let next = next_digit c.args.text.now c.loop-digit.digit-index c.requires c.loop-digit-test.true in
    grind (arith, next, c.loop-digit.invariant, c.from.ensures)
