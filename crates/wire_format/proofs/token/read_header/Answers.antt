use Rattle.std.proofs.Common.{◌≡◌, ◌<◌, ◌≤◌, refl, arith}
use Rattle.wire_format.specs.Fields.{LAST_NUMBER}
use Rattle.wire_format.specs.Faults.{IsNumber}
use Rattle.wire_format.proofs.TokenLemmas.{has_header}
use Rattle.wire_format.proofs.token.read_header.Goals as goal

pub returns-then-number-eq0 : goal.returns-then-number-eq0
returns-then-number-eq0 c =
    let varint = c.in-Ok.varint in (
      refl,
      has_header (λ number kind body size. number ≡ 0) c.args.bytes.now varint.len varint.value
          c.in-Ok.ensures.0 c.in-Ok.ensures.1 (omega (arith, c.if-number-eq0.true)),
    )

pub returns-then-number-gt-LAST_NUMBER : goal.returns-then-number-gt-LAST_NUMBER
returns-then-number-gt-LAST_NUMBER c =
    let varint = c.in-Ok.varint in (
      refl,
      has_header (λ number kind body size. LAST_NUMBER < number) c.args.bytes.now varint.len varint.value
          c.in-Ok.ensures.0 c.in-Ok.ensures.1 (omega (arith, c.if-number-gt-LAST_NUMBER.true)),
    )

pub returns-then-kind-gt5 : goal.returns-then-kind-gt5
returns-then-kind-gt5 c =
    let varint = c.in-Ok.varint in (
      refl,
      has_header (λ number kind body size. IsNumber number × (6 ≤ kind)) c.args.bytes.now varint.len varint.value
          c.in-Ok.ensures.0 c.in-Ok.ensures.1
          ((omega (arith, c.if-number-eq0.false), omega (arith, c.if-number-gt-LAST_NUMBER.false)), omega (arith, c.if-kind-gt5.true)),
    )
