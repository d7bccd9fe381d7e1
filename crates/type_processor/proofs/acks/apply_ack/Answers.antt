use Rattle.std.proofs.Common.{◌∙◌, ap, refl, sym}
use Rattle.sync_model.specs.declared.message.Ack.{Ack}
use Rattle.sync_model.specs.KeyStates.{acknowledged}
use Rattle.type_processor.proofs.AckLemmas.{ack_ignored, ack_ignored_note, ack_put}
use Rattle.type_processor.proofs.acks.apply_ack.Goals as goal

pub returns-then-is_ignored-clause-states : goal.returns-then-is_ignored-clause-states
returns-then-is_ignored-clause-states c =
    ack_ignored c.args.trackers.now c.args.ack.now.hash c.in_ok-tracker.tracker c.args.ack.now c.in_ok-tracker.ensures refl
    (sym c.if-is_ignored.true ∙ c.is_ignored.ensures)

pub returns-then-is_ignored-clause-note : goal.returns-then-is_ignored-clause-note
returns-then-is_ignored-clause-note c =
    ack_ignored_note c.args.trackers.now c.args.ack.now.hash c.in_ok-tracker.tracker c.args.ack.now c.in_ok-tracker.ensures refl
    (sym c.if-is_ignored.true ∙ c.is_ignored.ensures)

pub returns-clause-states : goal.returns-clause-states
returns-clause-states c =
    ack_put c.args.trackers.now c.put_changed.new.trackers c.args.ack.now.hash c.in_ok-tracker.tracker c.acknowledge-ended.new.tracker
    c.args.ack.now c.in_ok-tracker.ensures refl (sym c.if-is_ignored.false ∙ c.is_ignored.ensures)
    (c.acknowledge-ended.ensures.state
    ∙ ap (λ (ack : Ack). (c.in_ok-tracker.tracker.hash, acknowledged c.in_ok-tracker.tracker.state ack)) c.in_ok-copied.ensures)
    c.in_ok-put_changed.ensures.ok
