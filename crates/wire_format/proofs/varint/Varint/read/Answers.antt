use Rattle.std.proofs.Common.{◌<◌, ◌+◌, arith, length, take}
use Rattle.wire_format.specs.Varints.{groups_value}
use Rattle.wire_format.proofs.VarintLemmas.{long_here, varint_here, varint_bound}
use Rattle.wire_format.proofs.varint.Varint.read.Goals as goal
use Rattle.wire_format.proofs.varint.Varint.read.Goals.{else-count-eq9-via-then-count-eq9+else-last-gt1, else-count-eq9-via-else-count-eq9}

pub returns-then-last-gt1 : goal.returns-then-last-gt1
returns-then-last-gt1 c =
    let count = c.count_continuing-count in
    long_here c.args.bytes.now count.result (omega (arith, c.if-count-eq9.true))
    (omega (arith, c.if-count-bytes.false, count.ensures.inside)) count.ensures.go_on (omega (arith, c.if-last-gt1.true))

pub groups_value-requires : goal.groups_value-requires
groups_value-requires c =
    let count = c.count_continuing-count in
    let inside : count.result < length c.args.bytes.now = omega (arith, c.if-count-bytes.false, count.ensures.inside) in
    let here = varint_here c.args.bytes.now count.result inside count.ensures.go_on count.ensures.within in
    varint_bound (take (count.result + 1) c.args.bytes.now) (groups_value (take (count.result + 1) c.args.bytes.now))
    (elim c.else-count-eq9.branch [
      | else-count-eq9-via-then-count-eq9+else-last-gt1 w ↦ here (omega (arith, w.if-last-gt1.false)) (λ nine. omega (arith, w.if-last-gt1.false))
      | else-count-eq9-via-else-count-eq9 w ↦ here
          (count.ensures.ends inside (omega (arith, count.ensures.within, w.if-count-eq9.false)))
          (λ nine. absurd (omega (arith, nine, w.if-count-eq9.false)))
    ])
