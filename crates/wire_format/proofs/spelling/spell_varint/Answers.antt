use Rattle.std.proofs.Common.{◌+◌, ◌%◌, [], ◌∷◌, length, ap, ◌∙◌, lit<, length-append, arith}
use Rattle.wire_format.specs.Spellings.{varint_of}
use Rattle.wire_format.proofs.LeastGroups.{one_more, last_one, spelled}
use Rattle.wire_format.proofs.spelling.spell_varint.Goals as goal

pub loop-rest-init : goal.loop-rest-init
loop-rest-init c =
    let first = spelled c.new-bytes.result.items c.args.value c.new-bytes.ensures c.ranges.value.fits in
    record { few = omega (arith, ap length c.new-bytes.ensures); spells = first.0; fills = first.1 }

pub push-requires : goal.push-requires
push-requires c =
    let loop = c.loop-rest.invariant in
    let more = one_more c.loop-rest.bytes.items (varint_of c.args.value) c.loop-rest.rest c.loop-rest-test.true (loop.spells, loop.fills) in
    (lit< tt, omega (arith, more.0))

pub loop-rest-preserved : goal.loop-rest-preserved
loop-rest-preserved c =
    let loop = c.loop-rest.invariant in
    let more = one_more c.loop-rest.bytes.items (varint_of c.args.value) c.loop-rest.rest c.loop-rest-test.true (loop.spells, loop.fills) in
    rw c.push.ensures.items (record {
      few = omega (arith, more.0, length-append c.loop-rest.bytes.items ((c.loop-rest.rest % 128 + 128) ∷ []));
      spells = more.1.0;
      fills = more.1.1;
    })

pub push-requires-2 : goal.push-requires-2
push-requires-2 c = (lit< tt, omega (arith, c.loop-rest.invariant.few))

pub returns : goal.returns
returns c =
    let loop = c.loop-rest.invariant in
    c.push-2.ensures.items ∙ last_one c.loop-rest.bytes.items (varint_of c.args.value) c.loop-rest.rest c.loop-rest-test.false (loop.spells, loop.fills)
