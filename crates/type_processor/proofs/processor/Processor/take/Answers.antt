use Rattle.std.proofs.Common.{◌∙◌, ℕ, ◌+◌, ◌<◌, List, ap, subst, sym}
use Rattle.std.specs.Prelude.{IsTrue}
use Rattle.client_tags.specs.declared.Kind.{Kind}
use Rattle.sync_values.specs.declared.value.Value.{Value}
use Rattle.entity_tracker.specs.Tracked.{Tracked}
use Rattle.sync_model.specs.declared.state.KeyState.{KeyState}
use Rattle.sync_model.specs.Edits.{edit_value}
use Rattle.sync_model.specs.KeyStates.{edited}
use Rattle.sync_model.specs.Sides.{with_state}
use Rattle.type_processor.specs.Fits.{AreStatesOf, may_have}
use Rattle.type_processor.specs.Processed.{Processed}
use Rattle.type_processor.proofs.Soundness.{edit_are, edit_value_is, next_number}
use Rattle.type_processor.proofs.processor.Processor.take.Goals as goal

pub local_change-requires : goal.local_change-requires
local_change-requires g c =
    subst (λ (key : List ℕ × KeyState). key.1.last_edit < c.self.inside.last_edit + 1) (sym c.in_ok-tracker.ensures)
    (next_number c.self.inside.kind c.self.inside.last_edit c.args.hash.now c.self.inside.trackers c.self.invariant.states)

pub invariant_of-self-2 : goal.invariant_of-self-2
invariant_of-self-2 g c = record {
  states =
      subst (AreStatesOf c.self.inside.kind (c.self.inside.last_edit + 1))
      (sym (c.in_ok-before.ensures.ok
      ∙ ap (λ (tracked : Tracked). with_state c.self.inside.trackers tracked.hash tracked.state) c.local_change.ensures
      ∙ ap (λ (key : List ℕ × KeyState). with_state c.self.inside.trackers key.0 (edited key.1 c.in_ok-value.value (c.self.inside.last_edit + 1)))
      c.in_ok-tracker.ensures))
      (edit_are c.self.inside.kind c.self.inside.last_edit c.args.hash.now c.in_ok-value.value c.self.inside.trackers
      (subst (λ (value : Value). IsTrue (may_have c.self.inside.kind value)) (sym c.in_ok-value.ensures)
      (subst (λ (kind : Kind). IsTrue (may_have kind (edit_value c.own.result.now c.args.edit)))
      (c.requires.kind ∙ ap (λ (p : Processed g.row.R.Denot). p.kind) (sym c.self.view_is)) (edit_value_is c.own.result.now c.args.edit)))
      c.self.invariant.states);
  mailbox = c.self.invariant.mailbox;
}
