-- A turn by which an edit is lost to a write: the write was new to the key.
use Rattle.std.proofs.Common.{◌≡◌, ℕ, zero, suc, ◌<◌, ◌≤◌, ◌⊎◌, ◌||◌, not, Bool, true, false, cond, List, [], ◌∷◌, Option, Some, None, is_some, refl, sym, ap, ◌∙◌, subst, eqb, arith, inl, inr, le_refl}
use Rattle.std.specs.List.{AllByRecursion}
use Rattle.std.specs.Option.{option_or}
use Rattle.std.proofs.lemmas.Bool.{leb-false}
use Rattle.client_tags.specs.declared.Kind.{Kind}
use Rattle.sync_values.specs.declared.value.Value.{Value}
use Rattle.sync_model.specs.declared.conflict.Choice.{Choice}
use Rattle.sync_model.specs.declared.conflict.Choice.TheVariants.{Same, Remote, Local, Merged as MergedInto}
use Rattle.sync_model.specs.declared.conflict.Decision.{Decision}
use Rattle.sync_model.specs.declared.conflict.Resolution.{Resolution}
use Rattle.sync_model.specs.declared.event.Event.TheVariants.{Turn}
use Rattle.sync_model.specs.declared.fate.Fate.{Fate}
use Rattle.sync_model.specs.declared.fate.Fate.TheVariants.{Committed}
use Rattle.sync_model.specs.declared.message.Ack.{Ack}
use Rattle.sync_model.specs.declared.message.Content.{Content}
use Rattle.sync_model.specs.declared.message.Entry.{Entry}
use Rattle.sync_model.specs.declared.message.Task.{Task}
use Rattle.sync_model.specs.declared.message.Task.TheVariants.{Batch as Updating, Acks}
use Rattle.sync_model.specs.declared.message.Update.{Update}
use Rattle.sync_model.specs.declared.state.KeyState.{KeyState}
use Rattle.sync_model.specs.Settings.{Setting, decided_by}
use Rattle.sync_model.specs.KeyStates.{is_old, resolution_of, updated, fate_by, fate_of_update, ended}
use Rattle.sync_model.specs.Sides.{States, state_at, with_state, after_update, after_ack, note_with, update_notes, note_of, notes_of, task_notes}
use Rattle.sync_model.specs.Fates.{fate_of}
use Rattle.sync_model.specs.Worlds.{World, stepped}
use Rattle.sync_model.specs.Laws.{last_outcome}
use Rattle.sync_model.specs.Facts.{IsTrueUpdate, IsTrueTask, AreChained, WorldFacts}
use Rattle.sync_model.specs.FateFacts.{NumberFacts, side_at}
use Rattle.sync_model.specs.EchoLaws.{IsLostTo}
use Rattle.sync_model.proofs.KeyLookups.{with_state-IsSetAt}
use Rattle.sync_model.proofs.FateKeys.{fate_in, fate_in-append}
use Rattle.sync_model.proofs.FateSteps.{Makes}
use Rattle.sync_model.proofs.FateNumbers.{stepped_counted}
use Rattle.sync_model.proofs.EchoKeys.{Rises, updated_rises}

-- an update of some, at its key's turn, was new, and is the write of this version
pub record IsLostBy (Is : Update → Type 0) (states : States) (version : ℕ) : Type 0 where
  pub update : Update
  pub is_so : Is update
  pub same : update.version ≡ version
  pub above : (state_at states update.hash).known < update.version

-- what is known of a key never falls
rises_known : (old new : KeyState) → Rises old new → old.known ≤ new.known
rises_known old new (inl same) = subst (λ (state : KeyState). old.known ≤ state.known) (sym same) (le_refl _)
rises_known old new (inr risen) = omega (arith, risen.0)

known_grows : (decided : Value → Value → Decision) (states : States) (update : Update) (hash : List ℕ)
    → (state_at states hash).known ≤ (state_at (after_update decided states update) hash).known
unfolding after_update
known_grows decided states update hash = by (is_old (state_at states update.hash) update)
  where
    set : (state_at (with_state states update.hash (updated decided (state_at states update.hash) update)) hash ≡ state_at states hash)
        ⊎ ((state_at (with_state states update.hash (updated decided (state_at states update.hash) update)) hash ≡ updated decided (state_at states update.hash) update) × (hash ≡ update.hash))
        → (state_at states hash).known ≤ (state_at (with_state states update.hash (updated decided (state_at states update.hash) update)) hash).known
    set (inl same) = subst (λ (state : KeyState). (state_at states hash).known ≤ state.known) (sym same) (le_refl _)
    set (inr put) = subst (λ (state : KeyState). (state_at states hash).known ≤ state.known) (sym put.0)
        (subst (λ (key : List ℕ). (state_at states key).known ≤ (updated decided (state_at states update.hash) update).known) (sym put.1)
        (rises_known (state_at states update.hash) (updated decided (state_at states update.hash) update) (updated_rises decided (state_at states update.hash) update)))

    by : (old : Bool) → (state_at states hash).known
        ≤ (state_at (cond old states (with_state states update.hash (updated decided (state_at states update.hash) update))) hash).known
    by true = le_refl _
    by false = set (with_state-IsSetAt states update.hash (updated decided (state_at states update.hash) update) hash)

-- an edit is lost by the first fate, or by the other
lost_or : (first rest : Option Fate) (version : ℕ) → IsLostTo (option_or first rest) version → IsLostTo first version ⊎ IsLostTo rest version
lost_or None rest version lost = inr lost
lost_or (Some fate) rest version lost = inl lost

-- the fate in a note is the one that is noted
lost_note : (due : Option ℕ) (given : Option Fate) (edit version : ℕ) → IsLostTo (fate_in (note_with due given) edit) version → IsLostTo given version
lost_note None None edit version lost = absurd lost
lost_note None (Some fate) edit version lost = absurd lost
lost_note (Some number) None edit version lost = absurd lost
lost_note (Some number) (Some fate) edit version lost = by (eqb number edit) lost
  where
    by : (same : Bool) → IsLostTo (cond same (Some fate) None) version → IsLostTo (Some fate) version
    by true lost = lost
    by false lost = absurd lost

-- a row loses an edit to the write that comes
lost_row : (coming : ℕ) (resolution : Resolution) (choice : Choice) (version : ℕ) → IsLostTo (fate_by coming resolution choice) version → coming ≡ version
lost_row coming resolution Same version lost = absurd lost
lost_row coming resolution Remote version lost = lost
lost_row coming resolution Local version lost = absurd lost
lost_row coming resolution (MergedInto value) version lost = lost

lost_update : (Is : Update → Type 0) (decided : Value → Value → Decision) (states : States) (update : Update) (version : ℕ) → Is update
    → IsLostTo (fate_of_update decided (state_at states update.hash) update) version → IsLostBy Is states version
unfolding fate_of_update
lost_update Is decided states update version is = by (is_old (state_at states update.hash) update) (is_some (state_at states update.hash).due) refl
  where
    by : (old due : Bool) → is_old (state_at states update.hash) update ≡ old
        → IsLostTo (cond (old || not due) None (fate_by update.version (resolution_of decided (state_at states update.hash) update)
        (resolution_of decided (state_at states update.hash) update).choice)) version → IsLostBy Is states version
    by true due new lost = absurd lost
    by false false new lost = absurd lost
    by false true new lost = record {
      update = update;
      is_so = is;
      same = lost_row update.version (resolution_of decided (state_at states update.hash) update)
          (resolution_of decided (state_at states update.hash) update).choice version lost;
      above = leb-false update.version (state_at states update.hash).known new;
    }

-- an update, or one that is applied after it
lost_next : (Is : Update → Type 0) (decided : Value → Value → Decision) (states : States) (update : Update) (edit version : ℕ) (rest : Option Fate) → Is update
    → (IsLostTo rest version → IsLostBy Is (after_update decided states update) version)
    → IsLostTo (fate_in (note_with (state_at states update.hash).due (fate_of_update decided (state_at states update.hash) update)) edit) version
    ⊎ IsLostTo rest version → IsLostBy Is states version
lost_next Is decided states update edit version rest is later (inl here) =
    lost_update Is decided states update version is
    (lost_note (state_at states update.hash).due (fate_of_update decided (state_at states update.hash) update) edit version here)
lost_next Is decided states update edit version rest is later (inr there) =
    let found : IsLostBy Is (after_update decided states update) version = later there
    in record {
      update = found.update;
      is_so = found.is_so;
      same = found.same;
      above = omega (arith, found.above, known_grows decided states update found.update.hash);
    }

lost_updates : (Is : Update → Type 0) (decided : Value → Value → Decision) (states : States) (updates : List Update) (edit version : ℕ)
    → AllByRecursion Is updates → IsLostTo (fate_in (update_notes decided states updates) edit) version → IsLostBy Is states version
unfolding update_notes
lost_updates Is decided states [] edit version all lost = absurd lost
lost_updates Is decided states (update ∷ updates) edit version all lost =
    lost_next Is decided states update edit version (fate_in (update_notes decided (after_update decided states update) updates) edit) all.0
    (λ later. lost_updates Is decided (after_update decided states update) updates edit version all.1 later)
    (lost_or (fate_in (note_with (state_at states update.hash).due (fate_of_update decided (state_at states update.hash) update)) edit)
    (fate_in (update_notes decided (after_update decided states update) updates) edit) version
    (subst (λ (fate : Option Fate). IsLostTo fate version)
    (fate_in-append (note_with (state_at states update.hash).due (fate_of_update decided (state_at states update.hash) update))
    (update_notes decided (after_update decided states update) updates) edit) lost))

-- an acknowledgement loses no edit
none_lost : (due : Option ℕ) (stored edit version : ℕ) → IsLostTo (fate_in (note_of due stored) edit) version → ⊥
none_lost None stored edit version lost = lost
none_lost (Some number) stored edit version lost = by (eqb number edit) lost
  where
    by : (same : Bool) → IsLostTo (cond same (Some (Committed stored)) None) version → ⊥
    by true lost = lost
    by false lost = lost

neither_lost : (first rest : Option Fate) (version : ℕ) → (IsLostTo first version → ⊥) → (IsLostTo rest version → ⊥)
    → IsLostTo (option_or first rest) version → ⊥
neither_lost None rest version one other lost = other lost
neither_lost (Some fate) rest version one other lost = one lost

none_lost_acks : (states : States) (acks : List Ack) (edit version : ℕ) → IsLostTo (fate_in (notes_of states acks) edit) version → ⊥
unfolding notes_of
none_lost_acks states [] edit version lost = lost
none_lost_acks states (ack ∷ acks) edit version lost =
    neither_lost (fate_in (note_of (ended (state_at states ack.hash) ack) ack.version) edit) (fate_in (notes_of (after_ack states ack) acks) edit) version
    (none_lost (ended (state_at states ack.hash) ack) ack.version edit version) (none_lost_acks (after_ack states ack) acks edit version)
    (subst (λ (fate : Option Fate). IsLostTo fate version)
    (fate_in-append (note_of (ended (state_at states ack.hash) ack) ack.version) (notes_of (after_ack states ack) acks) edit) lost)

-- the task by which an edit is lost
lost_task : (history : List (Entry Content)) (kind : Kind) (decided : Value → Value → Decision) (mark edit version : ℕ) (states : States) (task : Task)
    → IsTrueTask history kind mark task → IsLostTo (fate_in (task_notes decided states task) edit) version
    → IsLostBy (IsTrueUpdate history kind) states version
unfolding task_notes
lost_task history kind decided mark edit version states (Updating batch) is lost =
    lost_updates (IsTrueUpdate history kind) decided states batch.updates edit version is.is_true lost
lost_task history kind decided mark edit version states (Acks acks) is lost = absurd (none_lost_acks states acks edit version lost)

-- a turn that loses an edit which stood until then
pub lost_turn : (setting : Setting) (world : World) (place : ℕ) (kind : Kind) (edit version : ℕ) → NumberFacts world → WorldFacts world
    → fate_of world.settlements (suc place) kind edit ≡ None
    → IsLostTo (fate_of (stepped setting (Turn (suc place) kind) world).settlements (suc place) kind edit) version
    → IsLostBy (IsTrueUpdate world.history kind) (side_at world (suc place) kind).states version
lost_turn setting world place kind edit version facts known stood lost =
    by (stepped_counted setting (Turn (suc place) kind) world facts place kind).0.noted
    (stepped_counted setting (Turn (suc place) kind) world facts place kind).0.makes
    (subst (λ (fate : Option Fate). IsLostTo fate version)
    ((stepped_counted setting (Turn (suc place) kind) world facts place kind).0.fates edit
    ∙ ap (λ (fate : Option Fate). option_or fate ((stepped_counted setting (Turn (suc place) kind) world facts place kind).0.noted edit)) stood) lost)
  where
    none_zero : zero ≡ suc place → ⊥
    none_zero same = omega (arith, same)

    by : (noted : ℕ → Option Fate)
        → Makes setting (Turn (suc place) kind) world (suc place) kind (side_at world (suc place) kind)
        (side_at (stepped setting (Turn (suc place) kind) world) (suc place) kind) noted (last_outcome (stepped setting (Turn (suc place) kind) world))
        → IsLostTo (noted edit) version → IsLostBy (IsTrueUpdate world.history kind) (side_at world (suc place) kind).states version
    by noted (inl quiet) lost = absurd (subst (λ (fate : Option Fate). IsLostTo fate version) (quiet.silent edit) lost)
    by noted (inr (inl editing)) lost = absurd (none_zero editing.user)
    by noted (inr (inr turning)) lost =
        lost_task world.history kind (decided_by setting kind) (side_at world (suc place) kind).mark edit version (side_at world (suc place) kind).states turning.task
        (subst (λ (mailbox : List Task). AreChained world.history kind (side_at world (suc place) kind).mark mailbox (side_at world (suc place) kind).seen) turning.first
        ((known.clients (suc place)).sides kind).mailed).0
        (subst (λ (fate : Option Fate). IsLostTo fate version) (turning.settles edit) lost)
