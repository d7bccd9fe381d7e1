-- A turn leaves an edit that stands, or settles it as its fate says; so does each event.
use Rattle.std.proofs.Common.{◌≡◌, ℕ, suc, ◌<◌, ◌++◌, ◌⊎◌, List, ◌∷◌, Some, sym, ◌∙◌, subst, inl, inr}
use Rattle.std.specs.List.{AllByRecursion}
use Rattle.client_tags.specs.declared.Kind.{Kind}
use Rattle.sync_values.specs.declared.edit.Edit.{Edit}
use Rattle.sync_values.specs.declared.value.Value.{Value}
use Rattle.sync_model.specs.declared.conflict.Decision.{Decision}
use Rattle.sync_model.specs.declared.event.Event.{Event}
use Rattle.sync_model.specs.declared.event.Event.TheVariants.{Turn}
use Rattle.sync_model.specs.declared.event.EventOutcome.{EventOutcome}
use Rattle.sync_model.specs.declared.event.Schedule.{Schedule}
use Rattle.sync_model.specs.declared.fate.Fate.{Fate}
use Rattle.sync_model.specs.declared.message.Content.{Content}
use Rattle.sync_model.specs.declared.message.Entry.{Entry}
use Rattle.sync_model.specs.declared.message.Task.{Task}
use Rattle.sync_model.specs.declared.message.Task.TheVariants.{Batch as Updating, Acks}
use Rattle.sync_model.specs.Edits.{edit_kind}
use Rattle.sync_model.specs.Settings.{Setting, decided_by}
use Rattle.sync_model.specs.Sides.{States, Side, after_task, task_notes}
use Rattle.sync_model.specs.Changes.{edit_hash}
use Rattle.sync_model.specs.Fates.{fate_of}
use Rattle.sync_model.specs.Worlds.{World, stepped}
use Rattle.sync_model.specs.Laws.{world_before, last_outcome, IsTrueFate}
use Rattle.sync_model.specs.Facts.{IsTrueUpdate, IsTrueAck, IsTrueTask, AreChained, WorldFacts}
use Rattle.sync_model.specs.FateFacts.{Saying, IsSaidOfAck, IsSaidOfTask, AreNumbered, side_at, NumberFacts, StandsOn, HasValueOf, IsUnsettled}
use Rattle.sync_model.proofs.FateKeys.{fate_in}
use Rattle.sync_model.proofs.NotedKeys.{noted_stands}
use Rattle.sync_model.proofs.FateUpdates.{StillStands, IsSettledBy, updates_walk}
use Rattle.sync_model.proofs.FateAcks.{IsAckedBy, acks_walk}
use Rattle.sync_model.proofs.FateSteps.{IsTurning, Makes}
use Rattle.sync_model.proofs.FateSettlements.{IsStep}
use Rattle.sync_model.proofs.FateNumbers.{IsCounted, stepped_counted}
use Rattle.sync_model.proofs.FateTruths.{acked_true, met_true}
use Rattle.sync_model.proofs.FateEdits.{all_both, left, or_given, Next, editing_next}

-- an update of a key by which a turn settles an edit, or an acknowledgement of the edit
abbrev Meets : List (Entry Content) → Kind → ℕ → List EventOutcome → Saying → (Value → Value → Decision) → ℕ → List ℕ → States → Fate → Type 0
Meets history kind client outcomes Says decided edit hash states fate =
    IsSettledBy (IsTrueUpdate history kind) decided hash states fate
    ⊎ IsAckedBy (λ ack. IsTrueAck history kind ack × IsSaidOfAck Says kind client outcomes ack) edit hash fate

-- a task leaves an edit that stands, or one of what it tells settles it
task_walk : (history : List (Entry Content)) (kind : Kind) (client : ℕ) (outcomes : List EventOutcome) (Says : Saying) (decided : Value → Value → Decision)
    (mark edit last : ℕ) (hash : List ℕ) (value : Value) (side : Side) (task : Task) → 0 < edit
    → IsTrueTask history kind mark task → IsSaidOfTask Says kind client outcomes task → AreNumbered last side.states → StandsOn edit hash value side.states
    → StillStands edit hash value (after_task decided side task).states (task_notes decided side.states task)
    ⊎ ((fate : Fate) × (fate_in (task_notes decided side.states task) edit ≡ Some fate) × Meets history kind client outcomes Says decided edit hash side.states fate)
unfolding after_task task_notes
task_walk history kind client outcomes Says decided mark edit last hash value side (Updating batch) some is said numbered stands =
    by (updates_walk (IsTrueUpdate history kind) decided edit last hash value side.states batch.updates some is.is_true said numbered stands)
  where
    by : StillStands edit hash value (after_task decided side (Updating batch)).states (task_notes decided side.states (Updating batch))
        ⊎ ((fate : Fate) × (fate_in (task_notes decided side.states (Updating batch)) edit ≡ Some fate) × IsSettledBy (IsTrueUpdate history kind) decided hash side.states fate)
        → StillStands edit hash value (after_task decided side (Updating batch)).states (task_notes decided side.states (Updating batch))
        ⊎ ((fate : Fate) × (fate_in (task_notes decided side.states (Updating batch)) edit ≡ Some fate) × Meets history kind client outcomes Says decided edit hash side.states fate)
    by (inl still) = inl still
    by (inr met) = inr (met.0, met.1, inl met.2)
task_walk history kind client outcomes Says decided mark edit last hash value side (Acks acks) some is said numbered stands =
    by (acks_walk (λ ack. IsTrueAck history kind ack × IsSaidOfAck Says kind client outcomes ack) edit last hash value side.states acks some
    (all_both (IsTrueAck history kind) (IsSaidOfAck Says kind client outcomes) acks is said) numbered stands)
  where
    by : StillStands edit hash value (after_task decided side (Acks acks)).states (task_notes decided side.states (Acks acks))
        ⊎ ((fate : Fate) × (fate_in (task_notes decided side.states (Acks acks)) edit ≡ Some fate)
        × IsAckedBy (λ ack. IsTrueAck history kind ack × IsSaidOfAck Says kind client outcomes ack) edit hash fate)
        → StillStands edit hash value (after_task decided side (Acks acks)).states (task_notes decided side.states (Acks acks))
        ⊎ ((fate : Fate) × (fate_in (task_notes decided side.states (Acks acks)) edit ≡ Some fate) × Meets history kind client outcomes Says decided edit hash side.states fate)
    by (inl still) = inl still
    by (inr met) = inr (met.0, met.1, inr met.2)

-- a turn of the same side
turning_next : (setting : Setting) (schedule : Schedule) (place number : ℕ) (edit : Edit) (value : Value) (before later : List Event) (event : Event)
    → schedule.events ≡ before ++ event ∷ later → 0 < number
    → NumberFacts (world_before setting schedule before) → WorldFacts (world_before setting schedule before)
    → IsUnsettled (suc place) (edit_kind edit) number (edit_hash setting edit) value (world_before setting schedule before)
    → (step : IsStep setting event (world_before setting schedule before) (stepped setting event (world_before setting schedule before)) place (edit_kind edit))
    → IsCounted (side_at (world_before setting schedule before) (suc place) (edit_kind edit))
    (side_at (stepped setting event (world_before setting schedule before)) (suc place) (edit_kind edit)) step.noted
    → IsTurning setting event (suc place) (edit_kind edit)
    (side_at (world_before setting schedule before) (suc place) (edit_kind edit))
    (side_at (stepped setting event (world_before setting schedule before)) (suc place) (edit_kind edit)) step.noted
    → Next setting schedule place number edit value (stepped setting event (world_before setting schedule before))
turning_next setting schedule place number edit value before later event splits some facts known unsettled step counted turning =
    by (task_walk world.history kind (suc place) world.outcomes (HasValueOf (suc place) kind number value (suc place)) (decided_by setting kind)
    old.mark number old.last_edit hash value (record old { mailbox = turning.tasks }) turning.task some is_true said (facts.keys place kind) unsettled.stands)
  where
    world : World
    world = world_before setting schedule before

    kind : Kind
    kind = edit_kind edit

    hash : List ℕ
    hash = edit_hash setting edit

    old : Side
    old = side_at (world_before setting schedule before) (suc place) (edit_kind edit)

    is_true : IsTrueTask world.history kind old.mark turning.task
    is_true = (subst (λ (mailbox : List Task). AreChained world.history kind old.mark mailbox old.seen) turning.first
        ((known.clients (suc place)).sides kind).mailed).0

    said : IsSaidOfTask (HasValueOf (suc place) kind number value (suc place)) kind (suc place) world.outcomes turning.task
    said = (subst (λ (mailbox : List Task). AllByRecursion (IsSaidOfTask (HasValueOf (suc place) kind number value (suc place)) kind (suc place) world.outcomes) mailbox)
        turning.first ((unsettled.sent.clients place).sides kind).mailbox).0

    splits_turn : schedule.events ≡ before ++ Turn (suc place) kind ∷ later
    splits_turn = subst (λ (found : Event). schedule.events ≡ before ++ found ∷ later) turning.is splits

    settles : (fate : Fate) → fate_in (task_notes (decided_by setting kind) old.states turning.task) number ≡ Some fate
        → fate_of (stepped setting event (world_before setting schedule before)).settlements (suc place) kind number ≡ Some fate
    settles fate is = step.fates number ∙ or_given (fate_of world.settlements (suc place) kind number) (step.noted number) (Some fate) unsettled.lacks_fate
        (turning.settles number ∙ is)

    is_so : (fate : Fate) → fate_of (stepped setting event (world_before setting schedule before)).settlements (suc place) kind number ≡ Some fate
        → Meets world.history kind (suc place) world.outcomes (HasValueOf (suc place) kind number value (suc place)) (decided_by setting kind) number hash old.states fate
        → IsTrueFate setting schedule (suc place) number edit value (Some fate)
    is_so fate settled (inl met) = met_true setting schedule place number edit value before later fate splits_turn unsettled.lacks_fate
        (subst (λ (found : Event). fate_of (stepped setting found (world_before setting schedule before)).settlements (suc place) kind number ≡ Some fate) turning.is settled)
        unsettled.stands met
    is_so fate settled (inr acked) = acked_true setting schedule place number edit value before (event ∷ later) fate splits acked

    by : StillStands number hash value (after_task (decided_by setting kind) (record old { mailbox = turning.tasks }) turning.task).states
        (task_notes (decided_by setting kind) old.states turning.task)
        ⊎ ((fate : Fate) × (fate_in (task_notes (decided_by setting kind) old.states turning.task) number ≡ Some fate)
        × Meets world.history kind (suc place) world.outcomes (HasValueOf (suc place) kind number value (suc place)) (decided_by setting kind) number hash old.states fate)
        → Next setting schedule place number edit value (stepped setting event (world_before setting schedule before))
    by (inl still) = inl (left setting event world place kind number hash value facts unsettled step counted
        (subst (λ (states : States). StandsOn number hash value states) (sym turning.states) still.0) (turning.settles number ∙ still.1))
    by (inr met) = inr (met.0, settles met.0 met.1, is_so met.0 (settles met.0 met.1) met.2)

-- an event leaves an edit that is not settled, or settles it as its fate says
pub edit_next : (setting : Setting) (schedule : Schedule) (place number : ℕ) (edit : Edit) (value : Value) (before later : List Event) (event : Event)
    → schedule.events ≡ before ++ event ∷ later → 0 < number
    → NumberFacts (world_before setting schedule before) → WorldFacts (world_before setting schedule before)
    → IsUnsettled (suc place) (edit_kind edit) number (edit_hash setting edit) value (world_before setting schedule before)
    → Next setting schedule place number edit value (stepped setting event (world_before setting schedule before))
edit_next setting schedule place number edit value before later event splits some facts known unsettled =
    by (stepped_counted setting event (world_before setting schedule before) facts place (edit_kind edit)).0
    (stepped_counted setting event (world_before setting schedule before) facts place (edit_kind edit)).1
    (stepped_counted setting event (world_before setting schedule before) facts place (edit_kind edit)).0.makes
  where
    by : (step : IsStep setting event (world_before setting schedule before) (stepped setting event (world_before setting schedule before)) place (edit_kind edit))
        → IsCounted (side_at (world_before setting schedule before) (suc place) (edit_kind edit))
        (side_at (stepped setting event (world_before setting schedule before)) (suc place) (edit_kind edit)) step.noted
        → Makes setting event (world_before setting schedule before) (suc place) (edit_kind edit)
        (side_at (world_before setting schedule before) (suc place) (edit_kind edit))
        (side_at (stepped setting event (world_before setting schedule before)) (suc place) (edit_kind edit)) step.noted
        (last_outcome (stepped setting event (world_before setting schedule before)))
        → Next setting schedule place number edit value (stepped setting event (world_before setting schedule before))
    by step counted (inl quiet) = inl (left setting event (world_before setting schedule before) place (edit_kind edit) number (edit_hash setting edit) value
        facts unsettled step counted
        (subst (λ (states : States). StandsOn number (edit_hash setting edit) value states) (sym quiet.kept.1)
        (noted_stands number (edit_hash setting edit) value (side_at (world_before setting schedule before) (suc place) (edit_kind edit)).states quiet.kept.0
        some unsettled.stands)) (quiet.silent number))
    by step counted (inr (inl editing)) = editing_next setting schedule place number edit value before later event splits some facts unsettled step counted editing
    by step counted (inr (inr turning)) = turning_next setting schedule place number edit value before later event splits some facts known unsettled step counted turning
