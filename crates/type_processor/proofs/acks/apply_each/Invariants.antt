use Rattle.std.proofs.Common.{◌≡◌, ◌++◌, drop}
use Rattle.sync_model.specs.Sides.{States, after_acks, notes_of}
use Rattle.type_processor.specs.Journals.{LeadsBack}
use Rattle.type_processor.proofs.acks.apply_each.Given as goal

abbrev pub invariant-loop-ack : goal.invariant-loop-ack
invariant-loop-ack l = record {
  states : after_acks l.trackers (drop l.ack-index l.acks) ≡ after_acks l.initial.trackers l.acks;
  notes : l.notes.items ++ notes_of l.trackers (drop l.ack-index l.acks) ≡ notes_of l.initial.trackers l.acks;
  leads : (first : States) → LeadsBack l.initial.changes.items first l.initial.trackers → LeadsBack l.changes.items first l.trackers;
}
