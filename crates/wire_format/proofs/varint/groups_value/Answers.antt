use Rattle.std.proofs.Common.{◌-◌, ◌%◌, refl, arith, get_or}
use Rattle.wire_format.proofs.SevenBitGroups.{groups_end, groups_next}
use Rattle.wire_format.proofs.varint.groups_value.Goals as goal

pub loop-place-init : goal.loop-place-init
loop-place-init c = groups_end c.args.bytes.now

pub overflow_mul-value : goal.overflow_mul-value
overflow_mul-value c = omega (arith, groups_next c.args.bytes.now c.loop-place.place c.loop-place.value (get_or c.args.bytes.now (c.loop-place.place - 1) 0 % 128) 18446744073709551616 (omega (arith, c.loop-place-test.true)) (omega (arith, c.loop-place.auto.place)) c.loop-place.invariant refl c.requires)

pub overflow_add-value : goal.overflow_add-value
overflow_add-value c = omega (arith, (groups_next c.args.bytes.now c.loop-place.place c.loop-place.value c.from.result 18446744073709551616 (omega (arith, c.loop-place-test.true)) (omega (arith, c.loop-place.auto.place)) c.loop-place.invariant c.from.ensures c.requires).1)

pub loop-place-preserved : goal.loop-place-preserved
loop-place-preserved c = (groups_next c.args.bytes.now c.loop-place.place c.loop-place.value c.from.result 18446744073709551616 (omega (arith, c.loop-place-test.true)) (omega (arith, c.loop-place.auto.place)) c.loop-place.invariant c.from.ensures c.requires).0
