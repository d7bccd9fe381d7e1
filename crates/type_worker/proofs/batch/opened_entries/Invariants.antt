use Rattle.std.proofs.Common.{drop}
use Rattle.type_worker.proofs.Batched.{GoesOn}
use Rattle.type_worker.proofs.batch.opened_entries.Given as goal

abbrev pub invariant-loop-entry : goal.invariant-loop-entry
invariant-loop-entry l = GoesOn l.bag l.entries (drop l.entry-index l.entries) l.updates
