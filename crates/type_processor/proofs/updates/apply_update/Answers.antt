use Rattle.std.proofs.Common.{◌≤◌, ◌<◌, ℕ, refl, subst}
use Rattle.type_processor.proofs.UpdateLemmas.{old_update, old_update_note, new_update}
use Rattle.type_processor.proofs.updates.apply_update.Goals as goal

pub returns-then-update-known-clause-states : goal.returns-then-update-known-clause-states
returns-then-update-known-clause-states g c =
    old_update (g.R.TypeRules.decided c.args.rules.now) c.args.trackers.now c.args.update.now.hash c.in_ok-tracker.tracker c.args.update.now
    c.in_ok-tracker.ensures refl (subst (λ (known : ℕ). c.args.update.now.version ≤ known) c.known.ensures c.if-update-known.true)

pub returns-then-update-known-clause-note : goal.returns-then-update-known-clause-note
returns-then-update-known-clause-note g c =
    old_update_note (g.R.TypeRules.decided c.args.rules.now) c.args.trackers.now c.args.update.now.hash c.in_ok-tracker.tracker c.args.update.now
    c.in_ok-tracker.ensures refl (subst (λ (known : ℕ). c.args.update.now.version ≤ known) c.known.ensures c.if-update-known.true)

pub returns-clause-states : goal.returns-clause-states
returns-clause-states g c =
    new_update (g.R.TypeRules.decided c.args.rules.now) c.args.trackers.now c.put_changed.new.trackers c.args.update.now.hash
    c.in_ok-tracker.tracker c.update_tracker.new.tracker c.args.update.now
    c.in_ok-tracker.ensures refl (subst (λ (known : ℕ). known < c.args.update.now.version) c.known.ensures c.if-update-known.false)
    c.in_ok-fate.ensures.state c.in_ok-put_changed.ensures.ok
