use Rattle.std.proofs.Common.{arith}
use Rattle.outer_edge.proofs.Told.{GaveUpTo-after}
use Rattle.http_edge.proofs.incoming.read_body.Goals as goal

-- what came before this call, and then what came in it
pub returns-in_err-read_piece-clause-gave_some : goal.returns-in_err-read_piece-clause-gave_some
returns-in_err-read_piece-clause-gave_some g c =
    GaveUpTo-after _ _ _ _ _ _ _ _ c.loop-link.invariant.gave (grind arith) c.read_piece.ensures.gave_some
