-- What settles an edit is as the fate says: a later edit, a write of its key by a row of the table, or one of its own.
use Rattle.std.proofs.Common.{◌≡◌, ℕ, suc, ◌+◌, ◌≤◌, ◌++◌, ◌⊎◌, List, ◌∷◌, Option, Some, None, refl, sym, ap, ◌∙◌, subst, arith, inl, inr}
use Rattle.client_tags.specs.declared.Kind.{Kind}
use Rattle.sync_values.specs.declared.edit.Edit.{Edit}
use Rattle.sync_values.specs.declared.value.Value.{Value}
use Rattle.sync_model.specs.declared.conflict.Choice.{Choice}
use Rattle.sync_model.specs.declared.conflict.Choice.TheVariants.{Same, Remote, Merged as MergedInto}
use Rattle.sync_model.specs.declared.event.Event.{Event}
use Rattle.sync_model.specs.declared.event.Event.TheVariants.{Turn}
use Rattle.sync_model.specs.declared.event.Schedule.{Schedule}
use Rattle.sync_model.specs.declared.fate.Fate.{Fate}
use Rattle.sync_model.specs.declared.fate.Fate.TheVariants.{Matched, Taken, Merged}
use Rattle.sync_model.specs.declared.message.Content.{Content}
use Rattle.sync_model.specs.declared.message.Entry.{Entry}
use Rattle.sync_model.specs.declared.state.KeyState.{KeyState}
use Rattle.sync_model.specs.Edits.{edit_kind, edit_value}
use Rattle.sync_model.specs.Settings.{Setting, decided_by}
use Rattle.sync_model.specs.Conflicts.{choice_of}
use Rattle.sync_model.specs.KeyStates.{resolution_of, is_echo}
use Rattle.sync_model.specs.Changes.{edit_hash}
use Rattle.sync_model.specs.Fates.{fate_of}
use Rattle.sync_model.specs.Worlds.{stepped, world_of}
use Rattle.sync_model.specs.Laws.{world_before, last_outcome, edit_key, state_of_edit, IsFollowed, IsOfEdit, IsAuthoredBy, IsTaking, IsMerging, IsSettledByRow, IsTrueFate}
use Rattle.sync_model.specs.Facts.{key_of, IsWriteOf, IsTrueUpdate, IsTrueAck}
use Rattle.sync_model.specs.FateFacts.{IsSentBy, IsSaidOfAck, StandsOn, HasValueOf, side_at}
use Rattle.sync_model.proofs.Writes.{IsWriteOf-longer}
use Rattle.sync_model.proofs.FateUpdates.{IsSettledBy}
use Rattle.sync_model.proofs.FateAcks.{IsAckedBy}
use Rattle.sync_model.proofs.FateWays.{IsSentBy-later}
use Rattle.sync_model.proofs.FateSteps.{IsEditing}
use Rattle.sync_model.proofs.FateStays.{stays_to_end}
use Rattle.sync_model.proofs.FateValues.{same_row, fate_cases}

-- a later edit of the same key on the same client
pub followed_true : (setting : Setting) (schedule : Schedule) (place number : ℕ) (edit : Edit) (before later : List Event) (event : Event) (noted : ℕ → Option Fate)
    → schedule.events ≡ before ++ event ∷ later
    → (editing : IsEditing setting event (world_before setting schedule before) (suc place) (edit_kind edit)
    (side_at (world_before setting schedule before) (suc place) (edit_kind edit))
    (side_at (stepped setting event (world_before setting schedule before)) (suc place) (edit_kind edit)) noted
    (last_outcome (stepped setting event (world_before setting schedule before))))
    → edit_hash setting editing.edit ≡ edit_hash setting edit
    → number ≤ (side_at (world_before setting schedule before) (suc place) (edit_kind edit)).last_edit
    → IsFollowed setting schedule (suc place) number edit ((side_at (world_before setting schedule before) (suc place) (edit_kind edit)).last_edit + 1)
followed_true setting schedule place number edit before later event noted splits editing same within = record {
  greater = omega (arith, within);
  next = editing.edit;
  next_value = edit_value (state_of_edit setting (world_before setting schedule before) (suc place) editing.edit).own editing.edit;
  made = record {
    before = before;
    event = event;
    later = later;
    splits = splits;
    user = editing.user;
    makes = editing.makes;
    counts = ap (λ (kind : Kind). (side_at (world_before setting schedule before) (suc place) kind).last_edit + 1) (sym editing.of_kind);
    done = editing.done;
    is_value = refl;
  };
  kind = editing.of_kind;
  hash = same;
}

-- the write of a version of the key of an edit stays so
of_edit_to_end : (setting : Setting) (schedule : Schedule) (before later : List Event) (version : ℕ) (edit : Edit) (value : Value)
    → schedule.events ≡ before ++ later
    → IsWriteOf (world_before setting schedule before).history (edit_key setting edit) version value
    → IsOfEdit setting (world_of setting schedule) version edit value
of_edit_to_end setting schedule before later version edit value splits is =
    let whole : IsWriteOf (world_of setting schedule).history (edit_key setting edit) version value
    = stays_to_end (λ history outcomes. IsWriteOf history (edit_key setting edit) version value) record {
      longer = λ history outcomes next. IsWriteOf-longer history next (edit_key setting edit) version value;
      later = λ history outcomes outcome is. is;
    } setting schedule before later splits is
    in record {
      of_key = record { write = whole.write; is_write = whole.is_write; key = whole.has_key };
      is_value = whole.has_value;
    }

sent_to_end : (setting : Setting) (schedule : Schedule) (before later : List Event) (client version : ℕ)
    → schedule.events ≡ before ++ later → IsSentBy (world_before setting schedule before).outcomes client version
    → IsAuthoredBy (world_of setting schedule) client version
sent_to_end setting schedule before later client version splits is =
    let whole : IsSentBy (world_of setting schedule).outcomes client version
    = stays_to_end (λ history outcomes. IsSentBy outcomes client version) record {
      longer = λ history outcomes next is. is;
      later = λ history outcomes outcome. IsSentBy-later outcomes outcome client version;
    } setting schedule before later splits is
    in record {
      event = whole.event;
      request = whole.request;
      made = whole.made;
      place = whole.place;
      author = (whole.delivery, whole.stores);
    }

-- a write of a key and a value that are equal to others
write_as : (history : List (Entry Content)) (kind : Kind) (one hash : List ℕ) (version : ℕ) (found value : Value) → one ≡ hash → found ≡ value
    → IsWriteOf history (key_of kind one) version found → IsWriteOf history (key_of kind hash) version value
write_as history kind one hash version found value same equal is = record {
  write = is.write;
  is_write = is.is_write;
  has_key = is.has_key ∙ ap (λ (at : List ℕ). key_of kind at) same;
  has_value = is.has_value ∙ equal;
}

-- an acknowledgement of what the client sent
pub acked_true : (setting : Setting) (schedule : Schedule) (place number : ℕ) (edit : Edit) (value : Value) (before later : List Event) (fate : Fate)
    → schedule.events ≡ before ++ later
    → IsAckedBy (λ ack. IsTrueAck (world_before setting schedule before).history (edit_kind edit) ack
    × IsSaidOfAck (HasValueOf (suc place) (edit_kind edit) number value (suc place)) (edit_kind edit) (suc place) (world_before setting schedule before).outcomes ack)
    number (edit_hash setting edit) fate
    → IsTrueFate setting schedule (suc place) number edit value (Some fate)
acked_true setting schedule place number edit value before later fate splits acked =
    subst (λ (found : Fate). IsTrueFate setting schedule (suc place) number edit value (Some found)) (sym acked.is) (
      of_edit_to_end setting schedule before later acked.ack.version edit value splits
          (write_as (world_before setting schedule before).history (edit_kind edit) acked.ack.hash (edit_hash setting edit) acked.ack.version acked.ack.value value
          acked.same (acked.holds.1.0 refl refl acked.numbered) acked.holds.0),
      sent_to_end setting schedule before later (suc place) acked.ack.version splits acked.holds.1.1,
    )

-- the turn that settles an edit by a row
row_settles : (setting : Setting) (schedule : Schedule) (place number : ℕ) (edit : Edit) (before later : List Event) (fate : Fate) (Does : Choice → Type 0)
    → schedule.events ≡ before ++ Turn (suc place) (edit_kind edit) ∷ later
    → fate_of (world_before setting schedule before).settlements (suc place) (edit_kind edit) number ≡ None
    → fate_of (stepped setting (Turn (suc place) (edit_kind edit)) (world_before setting schedule before)).settlements (suc place) (edit_kind edit) number ≡ Some fate
    → (state_of_edit setting (world_before setting schedule before) (suc place) edit).due ≡ Some number
    → (met : IsSettledBy (IsTrueUpdate (world_before setting schedule before).history (edit_kind edit)) (decided_by setting (edit_kind edit)) (edit_hash setting edit)
    (side_at (world_before setting schedule before) (suc place) (edit_kind edit)).states fate)
    → Does (resolution_of (decided_by setting (edit_kind edit)) (state_of_edit setting (world_before setting schedule before) (suc place) edit) met.update).choice
    → IsSettledByRow setting schedule (suc place) number edit met.update.version
    (resolution_of (decided_by setting (edit_kind edit)) (state_of_edit setting (world_before setting schedule before) (suc place) edit) met.update).row fate Does
row_settles setting schedule place number edit before later fate Does splits stood settles due met does =
    let is : IsWriteOf (world_before setting schedule before).history (edit_key setting edit) met.update.version met.update.value
    = write_as (world_before setting schedule before).history (edit_kind edit) met.update.hash (edit_hash setting edit) met.update.version met.update.value met.update.value
    met.same refl met.holds
    in record {
      before = before;
      later = later;
      splits = splits;
      stood = stood;
      settles = settles;
      due = due;
      of_key = record { write = is.write; is_write = is.is_write; key = is.has_key };
      fits = ap (λ (remote : Value). (resolution_of (decided_by setting (edit_kind edit)) (state_of_edit setting (world_before setting schedule before) (suc place) edit)
          (record met.update { value = remote })).row) is.has_value;
      does = subst (λ (remote : Value). Does (choice_of
          (resolution_of (decided_by setting (edit_kind edit)) (state_of_edit setting (world_before setting schedule before) (suc place) edit) met.update).row
          (decided_by setting (edit_kind edit) (state_of_edit setting (world_before setting schedule before) (suc place) edit).own remote))) (sym is.has_value) does;
    }

-- an update by which a turn settles an edit
pub met_true : (setting : Setting) (schedule : Schedule) (place number : ℕ) (edit : Edit) (value : Value) (before later : List Event) (fate : Fate)
    → schedule.events ≡ before ++ Turn (suc place) (edit_kind edit) ∷ later
    → fate_of (world_before setting schedule before).settlements (suc place) (edit_kind edit) number ≡ None
    → fate_of (stepped setting (Turn (suc place) (edit_kind edit)) (world_before setting schedule before)).settlements (suc place) (edit_kind edit) number ≡ Some fate
    → StandsOn number (edit_hash setting edit) value (side_at (world_before setting schedule before) (suc place) (edit_kind edit)).states
    → IsSettledBy (IsTrueUpdate (world_before setting schedule before).history (edit_kind edit)) (decided_by setting (edit_kind edit)) (edit_hash setting edit)
    (side_at (world_before setting schedule before) (suc place) (edit_kind edit)).states fate
    → IsTrueFate setting schedule (suc place) number edit value (Some fate)
met_true setting schedule place number edit value before later fate splits stood settles stands met =
    by (fate_cases met.update.version (resolution_of (decided_by setting (edit_kind edit)) state met.update)
    (resolution_of (decided_by setting (edit_kind edit)) state met.update).choice fate met.met)
  where
    state : KeyState
    state = state_of_edit setting (world_before setting schedule before) (suc place) edit

    by : (((resolution_of (decided_by setting (edit_kind edit)) state met.update).choice ≡ Same) × (fate ≡ Matched met.update.version))
        ⊎ ((((resolution_of (decided_by setting (edit_kind edit)) state met.update).choice ≡ Remote)
        × (fate ≡ Taken met.update.version (resolution_of (decided_by setting (edit_kind edit)) state met.update).row))
        ⊎ ((value : Value) × ((resolution_of (decided_by setting (edit_kind edit)) state met.update).choice ≡ MergedInto value)
        × (fate ≡ Merged met.update.version (resolution_of (decided_by setting (edit_kind edit)) state met.update).row)))
        → IsTrueFate setting schedule (suc place) number edit value (Some fate)
    by (inl same) = subst (λ (found : Fate). IsTrueFate setting schedule (suc place) number edit value (Some found)) (sym same.1)
        (of_edit_to_end setting schedule before (Turn (suc place) (edit_kind edit) ∷ later) met.update.version edit value splits
        (write_as (world_before setting schedule before).history (edit_kind edit) met.update.hash (edit_hash setting edit) met.update.version met.update.value value
        met.same (sym (same_row (is_echo state met.update.value) state.base state.own met.update.value
        (decided_by setting (edit_kind edit) state.own met.update.value) same.0) ∙ stands.own) met.holds))
    by (inr (inl taken)) = subst (λ (found : Fate). IsTrueFate setting schedule (suc place) number edit value (Some found)) (sym taken.1)
        (subst (λ (found : Fate). IsSettledByRow setting schedule (suc place) number edit met.update.version
        (resolution_of (decided_by setting (edit_kind edit)) state met.update).row found IsTaking) taken.1
        (row_settles setting schedule place number edit before later fate IsTaking splits stood settles stands.due met taken.0))
    by (inr (inr merged)) = subst (λ (found : Fate). IsTrueFate setting schedule (suc place) number edit value (Some found)) (sym merged.2)
        (subst (λ (found : Fate). IsSettledByRow setting schedule (suc place) number edit met.update.version
        (resolution_of (decided_by setting (edit_kind edit)) state met.update).row found IsMerging) merged.2
        (row_settles setting schedule place number edit before later fate IsMerging splits stood settles stands.due met (merged.0, merged.1)))
