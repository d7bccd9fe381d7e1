use Rattle.std.proofs.Common.{◌≡◌, take}
use Rattle.replay_world.proofs.copies.copied_list.Given as goal

abbrev pub invariant-loop-entry : goal.invariant-loop-entry
invariant-loop-entry l = l.copies.items ≡ take l.entry-index l.entries
