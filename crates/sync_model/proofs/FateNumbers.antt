-- The numbers of edits, of keys, of settlements and of all that is on its way, stay within their sides' last ones.
use Rattle.std.proofs.Common.{◌≡◌, ℕ, zero, suc, ◌+◌, ◌-◌, ◌<◌, ◌≤◌, List, [], ◌∷◌, Option, Some, None, refl, sym, ◌∙◌, subst, arith, inl, inr, le_refl, IfSome}
use Rattle.std.specs.Option.{option_or}
use Rattle.std.proofs.lemmas.Bool.{ne_eqb, cond-false}
use Rattle.client_tags.specs.declared.Kind.{Kind}
use Rattle.client_tags.specs.declared.Kind.TheVariants.{Nigori, Preference, Password}
use Rattle.sync_model.specs.declared.event.Event.{Event}
use Rattle.sync_model.specs.declared.event.EventOutcome.{EventOutcome}
use Rattle.sync_model.specs.declared.event.Schedule.{Schedule}
use Rattle.sync_model.specs.declared.fate.Fate.{Fate}
use Rattle.sync_model.specs.declared.fate.Note.{Note}
use Rattle.sync_model.specs.declared.state.KeyState.{KeyState}
use Rattle.sync_model.specs.Edits.{edit_value}
use Rattle.sync_model.specs.Settings.{Setting, decided_by}
use Rattle.sync_model.specs.KeyStates.{edited}
use Rattle.sync_model.specs.Sides.{States, Side, state_at, after_task, task_notes}
use Rattle.sync_model.specs.Clients.{new_client, side_of}
use Rattle.sync_model.specs.Changes.{edit_hash, own_at, follows}
use Rattle.sync_model.specs.Fates.{fate_of}
use Rattle.sync_model.specs.Worlds.{World, opening, outcome_at, stepped, run, world_of}
use Rattle.sync_model.specs.Laws.{last_outcome}
use Rattle.sync_model.specs.FateFacts.{IsSaidOfClient, IsSaidOnTheWay, IsNumbered, AreNumbered, side_at, NumberFacts}
use Rattle.sync_model.proofs.Longer.{all_then}
use Rattle.sync_model.proofs.NotedKeys.{noted_numbered}
use Rattle.sync_model.proofs.KnownWorlds.{opening_client}
use Rattle.sync_model.proofs.FateKeys.{each_put, numbered_at, fate_in, AreNotedWithin, task_numbered}
use Rattle.sync_model.proofs.FateWays.{way_weaker, new_client-said}
use Rattle.sync_model.proofs.FateWorlds.{stepped-said}
use Rattle.sync_model.proofs.FateSteps.{Makes}
use Rattle.sync_model.proofs.FateSettlements.{IsStep, stepped_step}

-- notes within a number settle none above it
within_none : (last edit : ℕ) (notes : List Note) → last < edit → AreNotedWithin last notes → fate_in notes edit ≡ None
within_none last edit [] above all = refl
within_none last edit (note ∷ notes) above all =
    cond-false _ _ _ (ne_eqb note.number edit (λ is. omega (arith, is, above, all.0))) ∙ within_none last edit notes above all.1

-- the edit that is followed has its key's last number
pub follows_other : (due : Option ℕ) (own later edit : ℕ) → IfSome due (λ number. number ≡ own) → (own ≡ edit → ⊥) → fate_in (follows due later) edit ≡ None
follows_other None own later edit is differs = refl
follows_other (Some number) own later edit is differs = cond-false _ _ _ (ne_eqb number edit (λ same. differs (sym is ∙ same)))

-- what an event makes of the keys' numbers, of the last one and of those that are settled
pub record IsCounted (old new : Side) (noted : ℕ → Option Fate) : Type 0 where
  pub keys : AreNumbered new.last_edit new.states
  pub grows : old.last_edit ≤ new.last_edit
  pub settles : (edit : ℕ) → old.last_edit < edit → noted edit ≡ None

makes_counted : (setting : Setting) (event : Event) (world : World) (number : ℕ) (kind : Kind) (old new : Side) (noted : ℕ → Option Fate) (outcome : EventOutcome)
    → AreNumbered old.last_edit old.states → Makes setting event world number kind old new noted outcome → IsCounted old new noted
makes_counted setting event world number kind old new noted outcome keys (inl quiet) = record {
  keys = subst (λ (last : ℕ). AreNumbered last new.states) (sym quiet.kept.2)
      (subst (λ (states : States). AreNumbered old.last_edit states) (sym quiet.kept.1)
      (noted_numbered old.last_edit old.states quiet.kept.0 keys));
  grows = omega (arith, quiet.kept.2);
  settles = λ edit above. quiet.silent edit;
}
makes_counted setting event world number kind old new noted outcome keys (inr (inl editing)) = record {
  keys = subst (λ (last : ℕ). AreNumbered last new.states) (sym editing.last)
      (subst (λ (states : States). AreNumbered (old.last_edit + 1) states) (sym editing.states)
      (each_put (λ key state. IsNumbered (old.last_edit + 1) state) old.states (edit_hash setting editing.edit)
      (edited (state_at old.states (edit_hash setting editing.edit)) (edit_value (own_at old (edit_hash setting editing.edit)) editing.edit) (old.last_edit + 1))
      record { due = refl; within = le_refl _ }
      (all_then (λ (entry : List ℕ × KeyState) (is : IsNumbered old.last_edit entry.1). more entry.1 is) old.states keys)));
  grows = omega (arith, editing.last);
  settles = λ edit above. editing.settles edit ∙ follows_other (state_at old.states (edit_hash setting editing.edit)).due
      (state_at old.states (edit_hash setting editing.edit)).last_edit (old.last_edit + 1) edit
      (numbered_at old.last_edit old.states (edit_hash setting editing.edit) keys).due (lower edit above);
}
  where
    more : (state : KeyState) → IsNumbered old.last_edit state → IsNumbered (old.last_edit + 1) state
    more state is = record { due = is.due; within = omega (arith, is.within) }

    lower : (edit : ℕ) → old.last_edit < edit → (state_at old.states (edit_hash setting editing.edit)).last_edit ≡ edit → ⊥
    lower edit above same =
        let here : IsNumbered old.last_edit (state_at old.states (edit_hash setting editing.edit)) = numbered_at old.last_edit old.states (edit_hash setting editing.edit) keys
        in omega (arith, same, above, here.within)
makes_counted setting event world number kind old new noted outcome keys (inr (inr turning)) =
    let after : AreNumbered old.last_edit (after_task (decided_by setting kind) (record old { mailbox = turning.tasks }) turning.task).states
    × AreNotedWithin old.last_edit (task_notes (decided_by setting kind) old.states turning.task)
    = task_numbered (decided_by setting kind) old.last_edit (record old { mailbox = turning.tasks }) turning.task keys
    in record {
      keys = subst (λ (last : ℕ). AreNumbered last new.states) (sym turning.last)
          (subst (λ (states : States). AreNumbered old.last_edit states) (sym turning.states) after.0);
      grows = omega (arith, turning.last);
      settles = λ edit above. turning.settles edit ∙ within_none old.last_edit edit (task_notes (decided_by setting kind) old.states turning.task)
          above after.1;
    }

-- an event keeps what holds of the numbers
pub stepped_counted : (setting : Setting) (event : Event) (world : World) → NumberFacts world → (place : ℕ) (kind : Kind)
    → (step : IsStep setting event world (stepped setting event world) place kind) × IsCounted (side_at world (suc place) kind) (side_at (stepped setting event world) (suc place) kind) step.noted
stepped_counted setting event world facts place kind =
    let step : IsStep setting event world (stepped setting event world) place kind
    = stepped_step (λ number kind edit value. edit ≤ (side_at world number kind).last_edit) setting event world facts.sent place kind
    in (
      step,
      makes_counted setting event world (suc place) kind (side_at world (suc place) kind) (side_at (stepped setting event world) (suc place) kind)
          step.noted (last_outcome (stepped setting event world)) (facts.keys place kind) step.makes,
    )

all_grow : (setting : Setting) (event : Event) (world : World) → NumberFacts world → (number : ℕ) (kind : Kind)
    → (side_at world number kind).last_edit ≤ (side_at (stepped setting event world) number kind).last_edit
all_grow setting event world facts zero kind = (stepped_counted setting event world facts 0 kind).1.grows
all_grow setting event world facts (suc place) kind = (stepped_counted setting event world facts place kind).1.grows

both_none : (first rest : Option Fate) → first ≡ None → rest ≡ None → option_or first rest ≡ None
both_none None rest is none = none
both_none (Some fate) rest is none = is

-- after an event nothing is on its way with a number that was not there before it
pub stepped-sent : (setting : Setting) (event : Event) (world : World) → NumberFacts world
    → IsSaidOnTheWay (λ number kind edit value. edit ≤ (side_at world number kind).last_edit) (stepped setting event world)
stepped-sent setting event world facts =
    stepped-said (λ number kind edit value. edit ≤ (side_at world number kind).last_edit) setting event world
    (λ place kind. all_then (λ (entry : List ℕ × KeyState) (is : IsNumbered (side_at world (suc place) kind).last_edit entry.1). (is.due, is.within))
    (side_at world (suc place) kind).states (facts.keys place kind)) facts.sent

pub stepped-numbers : (setting : Setting) (event : Event) (world : World) → NumberFacts world → NumberFacts (stepped setting event world)
stepped-numbers setting event world facts = record {
  keys = λ place kind. (stepped_counted setting event world facts place kind).1.keys;
  unsettled = λ place kind edit above.
      let counted = stepped_counted setting event world facts place kind
      in counted.0.fates edit ∙ both_none (fate_of world.settlements (suc place) kind edit) (counted.0.noted edit)
      (facts.unsettled place kind edit (omega (arith, above, counted.1.grows))) (counted.1.settles edit (omega (arith, above, counted.1.grows)));
  sent = way_weaker (λ number kind edit value. edit ≤ (side_at world number kind).last_edit)
      (λ number kind edit value. edit ≤ (side_at (stepped setting event world) number kind).last_edit) (stepped setting event world)
      (λ number kind edit value le. omega (arith, le, all_grow setting event world facts number kind))
      (stepped-sent setting event world facts);
}

-- the world before any event
opening-numbers : (clients seed : ℕ) (passes : List (List ℕ)) → NumberFacts (opening clients seed passes)
unfolding outcome_at fate_of
opening-numbers clients seed passes = record {
  keys = λ place kind. opening_client (λ client. AreNumbered (side_of client kind).last_edit (side_of client kind).states) (new kind) clients (suc place - 1);
  unsettled = λ place kind edit above. refl;
  sent = record {
    clients = λ place. opening_client (λ client. IsSaidOfClient (λ kind edit value. edit ≤ (side_at (opening clients seed passes) (suc place) kind).last_edit) (suc place) [] client)
        (new_client-said (λ kind edit value. edit ≤ (side_at (opening clients seed passes) (suc place) kind).last_edit) (suc place) []) clients (suc place - 1);
    outcomes = λ event. tt;
  };
}
  where
    new : (kind : Kind) → AreNumbered (side_of new_client kind).last_edit (side_of new_client kind).states
    new Nigori = tt
    new Preference = tt
    new Password = tt

run-numbers : (setting : Setting) (world : World) (events : List Event) → NumberFacts world → NumberFacts (run setting world events)
unfolding run
run-numbers setting world [] facts = facts
run-numbers setting world (event ∷ events) facts = run-numbers setting (stepped setting event world) events (stepped-numbers setting event world facts)

-- what holds of the numbers of each schedule's world
pub world_of-numbers : (setting : Setting) (schedule : Schedule) → NumberFacts (world_of setting schedule)
world_of-numbers setting schedule =
    run-numbers setting (opening schedule.clients schedule.seed schedule.passes) schedule.events (opening-numbers schedule.clients schedule.seed schedule.passes)
