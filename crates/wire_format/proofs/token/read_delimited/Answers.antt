use Rattle.std.proofs.Common.{refl, arith}
use Rattle.wire_format.proofs.TokenLemmas.{delimited}
use Rattle.wire_format.proofs.token.read_delimited.Goals as goal

pub returns : goal.returns
returns c =
    let count = c.in_ok-count.count in (
      omega (arith, c.if-count-rest.false, c.in_ok-count.ensures.0),
      delimited c.args.bytes.now count.len count.value c.in_ok-count.ensures.0 c.in_ok-count.ensures.1
          (omega (arith, c.if-count-rest.false)),
      refl,
    )
