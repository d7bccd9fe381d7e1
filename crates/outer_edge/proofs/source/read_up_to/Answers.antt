use Rattle.std.proofs.Common.{arith}
use Rattle.outer_edge.proofs.Told.{GaveUpTo-after, GaveCount-after, IfTooBig-then, IfNoMemory-then, IfErr-told}
use Rattle.outer_edge.proofs.source.read_up_to.Goals as goal

-- what came before this call, and then what came in it
pub returns-in_err-read_piece-clause-gave_some : goal.returns-in_err-read_piece-clause-gave_some
returns-in_err-read_piece-clause-gave_some g c =
    GaveUpTo-after _ _ _ _ _ _ _ _ c.loop-bytes.invariant.gave (grind arith) c.read_piece.ensures.gave_some

pub returns-in_err-read_piece-clause-gave_more : goal.returns-in_err-read_piece-clause-gave_more
returns-in_err-read_piece-clause-gave_more g c =
    IfErr-told c.from_residual.result c.in_err-read_piece.field-0.0 _ c.from_residual.ensures.1
    (IfTooBig-then c.in_err-read_piece.field-0.0 _ _
    (λ _ more. GaveCount-after _ _ _ _ _ _ _ _ c.loop-bytes.invariant.gave (grind arith) more)
    c.in_err-read_piece.ensures.gave_more)

pub returns-in_err-read_piece-clause-memory : goal.returns-in_err-read_piece-clause-memory
returns-in_err-read_piece-clause-memory g c =
    IfErr-told c.from_residual.result c.in_err-read_piece.field-0.0 _ c.from_residual.ensures.1
    (IfNoMemory-then c.in_err-read_piece.field-0.0 _ _
    (λ some. GaveUpTo-after _ _ _ _ _ _ _ _ c.loop-bytes.invariant.gave (grind arith) some)
    c.in_err-read_piece.ensures.memory)
