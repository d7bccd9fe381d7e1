use Rattle.std.proofs.Common.{length, arith}
use Rattle.wire_format.specs.Spellings.{varint_of}
use Rattle.wire_format.proofs.LeastGroups.{count_more, count_last, count_ten}
use Rattle.wire_format.proofs.spelling.varint_len.Goals as goal

pub returns-then-rest-lt128-clause-is_length : goal.returns-then-rest-lt128-clause-is_length
returns-then-rest-lt128-clause-is_length c =
    count_last c.loop-len.len c.loop-len.rest (length (varint_of c.args.value)) c.if-rest-lt128.true c.loop-len.invariant

pub loop-len-preserved : goal.loop-len-preserved
loop-len-preserved c =
    count_more c.loop-len.len c.loop-len.rest (length (varint_of c.args.value)) c.loop-len-test.true c.if-rest-lt128.false c.loop-len.invariant

pub returns-clause-is_length : goal.returns-clause-is_length
returns-clause-is_length c =
    count_ten c.loop-len.len c.loop-len.rest (length (varint_of c.args.value))
    (omega (arith, c.loop-len-test.false, c.loop-len.auto.len-end)) c.loop-len.invariant
