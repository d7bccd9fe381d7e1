-- What holds of each listed key of a side still does once one of them is set; the numbers that tasks leave and settle.
use Rattle.std.proofs.Common.{◌≡◌, ℕ, ◌≤◌, Bool, true, false, cond, List, [], ◌∷◌, ◌++◌, Option, Some, None, is_some, unwrap_or, refl, arith, sym, subst, eqb, is_eq, nat_cmp, nat_le, Ordering, Less, Equal, Greater, IfSome, ap}
use Rattle.std.specs.BTreeMap.{is_at}
use Rattle.std.specs.List.{AllByRecursion}
use Rattle.std.specs.Map.{lookup}
use Rattle.std.specs.Option.{option_or}
use Rattle.std.specs.Ordering.{match_ordering}
use Rattle.std.specs.Cmp.Lexicographic.{slice_cmp}
use Rattle.sync_values.specs.declared.value.Value.{Value}
use Rattle.sync_model.specs.declared.conflict.Choice.{Choice}
use Rattle.sync_model.specs.declared.conflict.Choice.TheVariants.{Same, Remote, Local, Merged as MergedInto}
use Rattle.sync_model.specs.declared.conflict.Decision.{Decision}
use Rattle.sync_model.specs.declared.fate.Fate.{Fate}
use Rattle.sync_model.specs.declared.fate.Note.{Note}
use Rattle.sync_model.specs.declared.message.Ack.{Ack}
use Rattle.sync_model.specs.declared.message.Task.{Task}
use Rattle.sync_model.specs.declared.message.Task.TheVariants.{Batch as Updating, Acks}
use Rattle.sync_model.specs.declared.message.Update.{Update}
use Rattle.sync_model.specs.declared.state.KeyState.{KeyState}
use Rattle.sync_model.specs.KeyStates.{new_state, is_old, settled, accepted, resolution_of, updated, fate_of_update, is_ignored, still_due, acknowledged, ended}
use Rattle.sync_model.specs.Sides.{States, Side, state_at, with_state, after_update, after_updates, after_ack, after_acks, after_task, note_with, update_notes, note_of, notes_of, task_notes}
use Rattle.sync_model.specs.FateFacts.{IsNumbered, AreNumbered}
use Rattle.sync_model.proofs.KeyLookups.{tested_same}
use Rattle.sync_model.proofs.TrueAcks.{all_append}

-- this holds of each listed key
abbrev pub Each : (List ℕ → KeyState → Type 0) → States → Type 0
Each P states = AllByRecursion (λ entry. P entry.0 entry.1) states

-- what holds of each listed key, and of a new state, holds of what stands at a key
each_at_by : (P : List ℕ → KeyState → Type 0) (here : List ℕ × KeyState) (rest : Option KeyState) (hash : List ℕ) (found : Bool)
    → is_eq (slice_cmp nat_cmp hash here.0) ≡ found → P here.0 here.1 → P hash (unwrap_or rest new_state)
    → P hash (unwrap_or (cond found (Some here.1) rest) new_state)
each_at_by P here rest hash true is first others = subst (λ (key : List ℕ). P key here.1) (sym (tested_same hash here.0 is)) first
each_at_by P here rest hash false is first others = others

pub each_at : (P : List ℕ → KeyState → Type 0) (states : States) (hash : List ℕ) → P hash new_state → Each P states → P hash (state_at states hash)
each_at P [] hash new all = new
each_at P (here ∷ states) hash new all =
    each_at_by P here (lookup (is_at (slice_cmp nat_cmp hash)) states) hash (is_eq (slice_cmp nat_cmp hash here.0)) refl all.0
    (each_at P states hash new all.1)

-- a state of which this holds is put at a key
each_put_by : (P : List ℕ → KeyState → Type 0) (order : Ordering) (states : States) (here : List ℕ × KeyState) (hash : List ℕ) (state : KeyState)
    → slice_cmp nat_cmp hash here.0 ≡ order → P hash state → Each P (here ∷ states) → Each P (with_state states hash state)
    → Each P (match_ordering order ((hash, state) ∷ here ∷ states) ((here.0, state) ∷ states) (here ∷ with_state states hash state))
each_put_by P Less states here hash state is put all rest = (put, all)
each_put_by P Equal states here hash state is put all rest =
    (subst (λ (key : List ℕ). P key state) (tested_same hash here.0 (ap is_eq is)) put, all.1)
each_put_by P Greater states here hash state is put all rest = (all.0, rest)

pub each_put : (P : List ℕ → KeyState → Type 0) (states : States) (hash : List ℕ) (state : KeyState)
    → P hash state → Each P states → Each P (with_state states hash state)
each_put P [] hash state put all = (put, tt)
each_put P (here ∷ states) hash state put all =
    each_put_by P (slice_cmp nat_cmp hash here.0) states here hash state refl put all (each_put P states hash state put all.1)

-- the state at a key is numbered as all are
pub numbered_at : (last : ℕ) (states : States) (hash : List ℕ) → AreNumbered last states → IsNumbered last (state_at states hash)
numbered_at last states hash all =
    each_at (λ key state. IsNumbered last state) states hash record { due = tt; within = omega arith } all

-- the fate that some notes give to an edit first, if any
abbrev pub fate_in : List Note → ℕ → Option Fate
fate_in [] edit = None
fate_in (note ∷ notes) edit = cond (eqb note.number edit) (Some note.fate) (fate_in notes edit)

fate_in_by : (found : Bool) (fate : Fate) (first rest both : Option Fate) → both ≡ option_or first rest
    → cond found (Some fate) both ≡ option_or (cond found (Some fate) first) rest
fate_in_by true fate first rest both is = refl
fate_in_by false fate first rest both is = is

pub fate_in-append : (first rest : List Note) (edit : ℕ) → fate_in (first ++ rest) edit ≡ option_or (fate_in first edit) (fate_in rest edit)
fate_in-append [] rest edit = refl
fate_in-append (note ∷ first) rest edit =
    fate_in_by (eqb note.number edit) note.fate (fate_in first edit) (fate_in rest edit) (fate_in (first ++ rest) edit) (fate_in-append first rest edit)

-- no note has a number above this one
abbrev pub AreNotedWithin : ℕ → List Note → Type 0
AreNotedWithin last notes = AllByRecursion (λ note. note.number ≤ last) notes

noted_within : (due : Option ℕ) (fate : Option Fate) (own last : ℕ) → IfSome due (λ number. number ≡ own) → own ≤ last
    → AreNotedWithin last (note_with due fate)
noted_within None None own last is le = tt
noted_within None (Some fate) own last is le = tt
noted_within (Some number) None own last is le = tt
noted_within (Some number) (Some fate) own last is le = (omega (arith, is, le), tt)

-- an update keeps the number of a key's last edit, and what is due with it or nothing
settled_numbered : (last : ℕ) (state : KeyState) (update : Update) (choice : Choice) → IsNumbered last state → IsNumbered last (settled state update choice)
settled_numbered last state update Same is = record { due = tt; within = is.within }
settled_numbered last state update Remote is = record { due = tt; within = is.within }
settled_numbered last state update Local is = record { due = is.due; within = is.within }
settled_numbered last state update (MergedInto value) is = record { due = is.due; within = is.within }

updated_numbered : (decided : Value → Value → Decision) (last : ℕ) (state : KeyState) (update : Update) → IsNumbered last state → IsNumbered last (updated decided state update)
unfolding updated
updated_numbered decided last state update is = by (is_old state update) (is_some state.due)
  where
    by : (old due : Bool) → IsNumbered last (cond old state (cond due (settled state update (resolution_of decided state update).choice) (accepted state update)))
    by true due = is
    by false true = settled_numbered last state update (resolution_of decided state update).choice is
    by false false = record { due = tt; within = is.within }

pub after_update_numbered : (decided : Value → Value → Decision) (last : ℕ) (states : States) (update : Update) → AreNumbered last states
    → AreNumbered last (after_update decided states update)
unfolding after_update
after_update_numbered decided last states update all = by (is_old (state_at states update.hash) update)
  where
    by : (old : Bool) → AreNumbered last (cond old states (with_state states update.hash (updated decided (state_at states update.hash) update)))
    by true = all
    by false = each_put (λ key state. IsNumbered last state) states update.hash _
        (updated_numbered decided last (state_at states update.hash) update (numbered_at last states update.hash all)) all

updates_numbered : (decided : Value → Value → Decision) (last : ℕ) (states : States) (updates : List Update) → AreNumbered last states
    → AreNumbered last (after_updates decided states updates) × AreNotedWithin last (update_notes decided states updates)
unfolding after_updates update_notes
updates_numbered decided last states [] all = (all, tt)
updates_numbered decided last states (update ∷ updates) all =
    let here : IsNumbered last (state_at states update.hash) = numbered_at last states update.hash all
    in let rest : AreNumbered last (after_updates decided (after_update decided states update) updates)
    × AreNotedWithin last (update_notes decided (after_update decided states update) updates)
    = updates_numbered decided last (after_update decided states update) updates (after_update_numbered decided last states update all)
    in (
      rest.0,
      all_append (λ note. note.number ≤ last) _ _
          (noted_within (state_at states update.hash).due (fate_of_update decided (state_at states update.hash) update)
          (state_at states update.hash).last_edit last here.due here.within) rest.1,
    )

-- so does an acknowledgement
still_numbered : (due : Option ℕ) (number own : ℕ) → IfSome due (λ edit. edit ≡ own) → IfSome (still_due due number) (λ edit. edit ≡ own)
still_numbered None number own is = tt
still_numbered (Some edit) number own is = by (nat_le edit number)
  where
    by : (over : Bool) → IfSome (cond over None (Some edit)) (λ edit. edit ≡ own)
    by true = tt
    by false = is

acknowledged_numbered : (last : ℕ) (state : KeyState) (ack : Ack) → IsNumbered last state → IsNumbered last (acknowledged state ack)
unfolding acknowledged
acknowledged_numbered last state ack is = by (is_ignored state ack)
  where
    by : (ignored : Bool) → IsNumbered last (cond ignored state record {
      known = ack.version;
      base = ack.value;
      own = cond (is_some (still_due state.due ack.number)) state.own ack.value;
      due = still_due state.due ack.number;
      last_edit = state.last_edit;
      lock = ack.lock;
      offered = [];
    })
    by true = is
    by false = record { due = still_numbered state.due ack.number state.last_edit is.due; within = is.within }

ended_numbered : (state : KeyState) (ack : Ack) → IfSome state.due (λ edit. edit ≡ state.last_edit) → IfSome (ended state ack) (λ edit. edit ≡ state.last_edit)
unfolding ended
ended_numbered state ack is = by (is_ignored state ack) (is_some (still_due state.due ack.number))
  where
    by : (ignored still : Bool) → IfSome (cond ignored None (cond still None state.due)) (λ edit. edit ≡ state.last_edit)
    by true still = tt
    by false true = tt
    by false false = is

ended_within : (due : Option ℕ) (version own last : ℕ) → IfSome due (λ number. number ≡ own) → own ≤ last → AreNotedWithin last (note_of due version)
ended_within None version own last is le = tt
ended_within (Some number) version own last is le = (omega (arith, is, le), tt)

pub after_ack_numbered : (last : ℕ) (states : States) (ack : Ack) → AreNumbered last states → AreNumbered last (after_ack states ack)
unfolding after_ack
after_ack_numbered last states ack all = by (is_ignored (state_at states ack.hash) ack)
  where
    by : (ignored : Bool) → AreNumbered last (cond ignored states (with_state states ack.hash (acknowledged (state_at states ack.hash) ack)))
    by true = all
    by false = each_put (λ key state. IsNumbered last state) states ack.hash _
        (acknowledged_numbered last (state_at states ack.hash) ack (numbered_at last states ack.hash all)) all

acks_numbered : (last : ℕ) (states : States) (acks : List Ack) → AreNumbered last states
    → AreNumbered last (after_acks states acks) × AreNotedWithin last (notes_of states acks)
unfolding after_acks notes_of
acks_numbered last states [] all = (all, tt)
acks_numbered last states (ack ∷ acks) all =
    let here : IsNumbered last (state_at states ack.hash) = numbered_at last states ack.hash all
    in let rest : AreNumbered last (after_acks (after_ack states ack) acks) × AreNotedWithin last (notes_of (after_ack states ack) acks)
    = acks_numbered last (after_ack states ack) acks (after_ack_numbered last states ack all)
    in (
      rest.0,
      all_append (λ note. note.number ≤ last) _ _
          (ended_within (ended (state_at states ack.hash) ack) ack.version (state_at states ack.hash).last_edit last
          (ended_numbered (state_at states ack.hash) ack here.due) here.within) rest.1,
    )

-- a task leaves and settles only numbers that the side has
pub task_numbered : (decided : Value → Value → Decision) (last : ℕ) (side : Side) (task : Task) → AreNumbered last side.states
    → AreNumbered last (after_task decided side task).states × AreNotedWithin last (task_notes decided side.states task)
unfolding after_task task_notes
task_numbered decided last side (Updating batch) all = updates_numbered decided last side.states batch.updates all
task_numbered decided last side (Acks acks) all = acks_numbered last side.states acks all
