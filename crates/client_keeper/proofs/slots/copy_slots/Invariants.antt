use Rattle.std.proofs.Common.{◌≡◌, ◌++◌}
use Rattle.client_keeper.proofs.slots.copy_slots.Given as goal

-- the copies and what is left make the whole
abbrev pub invariant-loop-key : goal.invariant-loop-key
invariant-loop-key l = l.copies.entries ++ l.key-iterator ≡ l.slots.entries
