use Rattle.std.proofs.Common.{ap, ◌∙◌, arith}
use Rattle.std.proofs.lemmas.Nat.{be_bytes_8}
use Rattle.std.specs.Int.{w64, from_be_bytes}
use Rattle.progress_marker.specs.Tokens.{token_of}
use Rattle.progress_marker.proofs.mark.Mark.read.Goals as goal

pub returns-clause-eight : goal.returns-clause-eight
unfolding token_of
returns-clause-eight c eight =
    be_bytes_8 c.args.token.now c.from_be_bytes.result eight (λ i. omega (arith, c.type_inv.token i))
    (c.from_be_bytes.ensures ∙ ap (from_be_bytes w64) c.in-Ok.ensures.1.same)
