use Rattle.std.proofs.Common.{◌∙◌, ap, sym, List}
use Rattle.sync_model.specs.declared.state.Offered.{Offered}
use Rattle.sync_model.specs.KeyStates.{is_offered}
use Rattle.entity_tracker.proofs.OfferedValues.{offered_if_room}
use Rattle.entity_tracker.proofs.tracker.Tracker.note_offered.Goals as goal

pub invariant_of-self : goal.invariant_of-self
invariant_of-self c = record {
  acked = c.self.invariant.acked;
  in_sync = c.self.invariant.in_sync;
  offered =
      offered_if_room c.add_offered.result c.self.inside.offered.items c.add_offered.new.offered.items
      (record { number = c.self.inside.sequence; value = c.in_ok-value.value })
      (ap (λ (pairs : List Offered). is_offered pairs c.self.inside.sequence) (sym c.deref.ensures.value) ∙ sym c.is_offered.ensures ∙ c.if-is_offered.false)
      c.self.invariant.offered c.add_offered.ensures.ok c.add_offered.ensures.err;
}
