use Rattle.std.proofs.Common.{length}
use Rattle.sync_model.specs.Sides.{States}
use Rattle.type_processor.specs.Journals.{LeadsBack}
use Rattle.type_processor.proofs.journal.take_all_back.Given as goal

abbrev pub invariant-changes : goal.invariant-changes
invariant-changes l =
    (first : States) → LeadsBack l.initial.changes.items first l.initial.trackers → LeadsBack l.changes.items first l.trackers

abbrev pub decreases-changes : goal.decreases-changes
decreases-changes l = length l.changes.items
