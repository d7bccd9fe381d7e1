use Rattle.std.proofs.Common.{◌≡◌}
use Rattle.client_keeper.specs.Slots.{shown}
use Rattle.client_keeper.proofs.slots.drop_empty.Given as goal

-- no row was lost
abbrev pub invariant-loop-entry : goal.invariant-loop-entry
invariant-loop-entry l = shown l.slots.entries ≡ shown l.fn.slots.entries
