use Rattle.std.proofs.Common.{◌≡◌, ◌++◌, drop}
use Rattle.sync_model.specs.Sides.{States, after_updates, update_notes}
use Rattle.type_processor.specs.Journals.{LeadsBack}
use Rattle.type_processor.proofs.updates.apply_each.Given as goal

abbrev pub invariant-loop-update : goal.invariant-loop-update
invariant-loop-update g l = record {
  states : after_updates (g.R.TypeRules.decided l.rules) l.trackers (drop l.update-index l.updates)
      ≡ after_updates (g.R.TypeRules.decided l.rules) l.initial.trackers l.updates;
  notes : l.notes.items ++ update_notes (g.R.TypeRules.decided l.rules) l.trackers (drop l.update-index l.updates)
      ≡ update_notes (g.R.TypeRules.decided l.rules) l.initial.trackers l.updates;
  leads : (first : States) → LeadsBack l.initial.changes.items first l.initial.trackers → LeadsBack l.changes.items first l.trackers;
}
