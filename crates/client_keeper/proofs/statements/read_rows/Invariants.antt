use Rattle.client_keeper.specs.Rows.{rows_of, AreInOrder}
use Rattle.client_keeper.proofs.statements.read_rows.Given as goal

-- the rows so far are in order
abbrev pub invariant-loop-row : goal.invariant-loop-row
invariant-loop-row g l = AreInOrder (rows_of l.rows)
