use Rattle.std.proofs.Common.{◌≡◌, ◌++◌}
use Rattle.client_keeper.specs.Rows.{rows_of}
use Rattle.client_keeper.specs.Slots.{shown}
use Rattle.client_keeper.proofs.slots.copy_rows.Given as goal

-- the copies and what is left make the whole
abbrev pub invariant-loop-key : goal.invariant-loop-key
invariant-loop-key l = rows_of l.rows ++ shown l.key-iterator ≡ shown l.slots.entries
