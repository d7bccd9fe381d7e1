-- An edit that is not settled is not after a further event, or that event settles it as its fate says.
use Rattle.std.proofs.Common.{◌≡◌, ℕ, suc, ◌+◌, ◌<◌, ◌≤◌, ◌++◌, ◌⊎◌, Bool, true, false, List, [], ◌∷◌, Option, Some, None, refl, sym, ap, ◌∙◌, subst, arith, inl, inr, bytes_eq}
use Rattle.std.specs.List.{AllByRecursion}
use Rattle.std.specs.Option.{option_or}
use Rattle.std.proofs.lemmas.Bool.{cases_eq, false≢true, cond-true, eq-eqb}
use Rattle.std.proofs.lemmas.Option.{none-some, same_Some}
use Rattle.std.proofs.lemmas.Slice.Eq.{bytes_eq-Decides}
use Rattle.client_tags.specs.declared.Kind.{Kind}
use Rattle.sync_values.specs.declared.edit.Edit.{Edit}
use Rattle.sync_values.specs.declared.value.Value.{Value}
use Rattle.sync_model.specs.declared.event.Event.{Event}
use Rattle.sync_model.specs.declared.event.Schedule.{Schedule}
use Rattle.sync_model.specs.declared.fate.Fate.{Fate}
use Rattle.sync_model.specs.declared.fate.Fate.TheVariants.{Followed}
use Rattle.sync_model.specs.declared.state.KeyState.{KeyState}
use Rattle.sync_model.specs.Values.{same_kind}
use Rattle.sync_model.specs.Edits.{edit_kind, edit_value}
use Rattle.sync_model.specs.Settings.{Setting}
use Rattle.sync_model.specs.KeyStates.{edited}
use Rattle.sync_model.specs.Sides.{States, Side, state_at, with_state}
use Rattle.sync_model.specs.Changes.{edit_hash, own_at, follows}
use Rattle.sync_model.specs.Fates.{fate_of}
use Rattle.sync_model.specs.Worlds.{World, stepped}
use Rattle.sync_model.specs.Laws.{world_before, last_outcome, IsTrueFate}
use Rattle.sync_model.specs.FateFacts.{IsNumbered, side_at, NumberFacts, IsOnlyOf, StandsOn, HasValueOf, IsUnsettled}
use Rattle.sync_model.proofs.Writes.{same_kind-true, same_kind-refl}
use Rattle.sync_model.proofs.Longer.{all_then}
use Rattle.sync_model.proofs.KeyLookups.{with_state-IsSetAt}
use Rattle.sync_model.proofs.FateKeys.{Each, each_put, numbered_at, fate_in}
use Rattle.sync_model.proofs.FateUpdates.{only_at, other_set}
use Rattle.sync_model.proofs.FateWorlds.{IsSaidOfKeys, stepped-said}
use Rattle.sync_model.proofs.FateSteps.{IsEditing}
use Rattle.sync_model.proofs.FateSettlements.{IsStep}
use Rattle.sync_model.proofs.FateNumbers.{follows_other, IsCounted}
use Rattle.sync_model.proofs.FateTruths.{followed_true}

-- two facts of each item
pub all_both : {X : Type 0} (P Q : X → Type 0) (xs : List X) → AllByRecursion P xs → AllByRecursion Q xs → AllByRecursion (λ x. P x × Q x) xs
all_both P Q [] one other = tt
all_both P Q (x ∷ xs) one other = ((one.0, other.0), all_both P Q xs one.1 other.1)

all_of : {X : Type 0} (P : X → Type 0) → ((x : X) → P x) → (xs : List X) → AllByRecursion P xs
all_of P each [] = tt
all_of P each (x ∷ xs) = (each x, all_of P each xs)

-- the keys of an edit that stands say of it what is said on the way
abbrev SaysValue : ℕ → Kind → ℕ → Value → ℕ → Kind → KeyState → Type 0
SaysValue place kind edit value other own state = HasValueOf (suc place) kind edit value (suc other) own state.last_edit state.own

own_keys_say : (place : ℕ) (kind : Kind) (edit : ℕ) (hash : List ℕ) (value : Value) (world : World) → IsUnsettled (suc place) kind edit hash value world
    → (other : ℕ) (own : Kind) → Each (λ key. SaysValue place kind edit value other own) (side_at world (suc other) own).states
own_keys_say place kind edit hash value world unsettled other own = by (cases_eq other place) (same_kind own kind) refl
  where
    here : Each (λ key. SaysValue place kind edit value place kind) (side_at world (suc place) kind).states
    here = all_then (λ (entry : List ℕ × KeyState) (only : IsOnlyOf edit hash value entry.0 entry.1). says entry only)
        (side_at world (suc place) kind).states unsettled.stands.alone
      where
        says : (entry : List ℕ × KeyState) → IsOnlyOf edit hash value entry.0 entry.1 → SaysValue place kind edit value place kind entry.1
        says entry only place_is kind_is is = (only is).2

    by : ((other ≡ place) ⊎ (other ≡ place → ⊥)) → (same : Bool) → same_kind own kind ≡ same
        → Each (λ key. SaysValue place kind edit value other own) (side_at world (suc other) own).states
    by (inl same) true is =
        subst (λ (at : ℕ). Each (λ key. SaysValue place kind edit value at own) (side_at world (suc at) own).states) (sym same)
        (subst (λ (found : Kind). Each (λ key. SaysValue place kind edit value place found) (side_at world (suc place) found).states)
        (sym (same_kind-true own kind is)) here)
    by (inl same) false is = all_of (λ (entry : List ℕ × KeyState). SaysValue place kind edit value other own entry.1)
        (λ entry place_is kind_is found. absurd (false≢true (sym is ∙ ap (λ (at : Kind). same_kind at kind) kind_is ∙ same_kind-refl kind)))
        (side_at world (suc other) own).states
    by (inr differs) same is = all_of (λ (entry : List ℕ × KeyState). SaysValue place kind edit value other own entry.1)
        (λ entry place_is kind_is found. absurd (differs (omega (arith, place_is)))) (side_at world (suc other) own).states

keys_say : (place : ℕ) (kind : Kind) (edit : ℕ) (hash : List ℕ) (value : Value) (world : World) → NumberFacts world
    → IsUnsettled (suc place) kind edit hash value world → (other : ℕ) → IsSaidOfKeys (HasValueOf (suc place) kind edit value) world (suc other)
keys_say place kind edit hash value world facts unsettled other own =
    all_then
    (λ (entry : List ℕ × KeyState) (both : IsNumbered (side_at world (suc other) own).last_edit entry.1 × SaysValue place kind edit value other own entry.1). (both.0.due, both.1))
    (side_at world (suc other) own).states
    (all_both (λ (entry : List ℕ × KeyState). IsNumbered (side_at world (suc other) own).last_edit entry.1)
    (λ (entry : List ℕ × KeyState). SaysValue place kind edit value other own entry.1) (side_at world (suc other) own).states
    (facts.keys other own) (own_keys_say place kind edit hash value world unsettled other own))

pub or_given : (first rest given : Option Fate) → first ≡ None → rest ≡ given → option_or first rest ≡ given
or_given None rest given none is = is
or_given (Some fate) rest given none is = absurd (none-some fate (sym none))

-- an edit that an event leaves
pub left : (setting : Setting) (event : Event) (world : World) (place : ℕ) (kind : Kind) (edit : ℕ) (hash : List ℕ) (value : Value)
    → NumberFacts world → IsUnsettled (suc place) kind edit hash value world
    → (step : IsStep setting event world (stepped setting event world) place kind)
    → IsCounted (side_at world (suc place) kind) (side_at (stepped setting event world) (suc place) kind) step.noted
    → StandsOn edit hash value (side_at (stepped setting event world) (suc place) kind).states → step.noted edit ≡ None
    → IsUnsettled (suc place) kind edit hash value (stepped setting event world)
left setting event world place kind edit hash value facts unsettled step counted stands none = record {
  counted = omega (arith, unsettled.counted, counted.grows);
  lacks_fate = step.fates edit ∙ or_given (fate_of world.settlements (suc place) kind edit) (step.noted edit) None unsettled.lacks_fate none;
  stands = stands;
  sent = stepped-said (HasValueOf (suc place) kind edit value) setting event world (keys_say place kind edit hash value world facts unsettled) unsettled.sent;
}

-- what a further event makes of an edit that is not settled
abbrev pub Next : Setting → Schedule → ℕ → ℕ → Edit → Value → World → Type 0
Next setting schedule place number edit value next =
    IsUnsettled (suc place) (edit_kind edit) number (edit_hash setting edit) value next
    ⊎ ((fate : Fate) × (fate_of next.settlements (suc place) (edit_kind edit) number ≡ Some fate) × IsTrueFate setting schedule (suc place) number edit value (Some fate))

-- an edit of another key leaves it
edited_stands : (edit last later : ℕ) (hash other : List ℕ) (value own : Value) (states : States) → edit ≤ last → later ≡ last + 1
    → (other ≡ hash → ⊥) → StandsOn edit hash value states
    → StandsOn edit hash value (with_state states other (edited (state_at states other) own later))
edited_stands edit last later hash other value own states within is differs stands =
    other_set edit hash value states (with_state states other (edited (state_at states other) own later)) other
    (edited (state_at states other) own later) (with_state-IsSetAt states other (edited (state_at states other) own later)) differs
    (each_put (IsOnlyOf edit hash value) states other (edited (state_at states other) own later)
    (λ same. absurd (omega (arith, same, within, is))) stands.alone) stands

follows_own : (due : Option ℕ) (later edit : ℕ) → due ≡ Some edit → fate_in (follows due later) edit ≡ Some (Followed later)
follows_own None later edit is = absurd (none-some edit is)
follows_own (Some number) later edit is = cond-true _ _ _ (eq-eqb number edit (same_Some number edit is))

-- an edit on the same side
pub editing_next : (setting : Setting) (schedule : Schedule) (place number : ℕ) (edit : Edit) (value : Value) (before later : List Event) (event : Event)
    → schedule.events ≡ before ++ event ∷ later → 0 < number
    → NumberFacts (world_before setting schedule before)
    → IsUnsettled (suc place) (edit_kind edit) number (edit_hash setting edit) value (world_before setting schedule before)
    → (step : IsStep setting event (world_before setting schedule before) (stepped setting event (world_before setting schedule before)) place (edit_kind edit))
    → IsCounted (side_at (world_before setting schedule before) (suc place) (edit_kind edit))
    (side_at (stepped setting event (world_before setting schedule before)) (suc place) (edit_kind edit)) step.noted
    → IsEditing setting event (world_before setting schedule before) (suc place) (edit_kind edit)
    (side_at (world_before setting schedule before) (suc place) (edit_kind edit))
    (side_at (stepped setting event (world_before setting schedule before)) (suc place) (edit_kind edit)) step.noted
    (last_outcome (stepped setting event (world_before setting schedule before)))
    → Next setting schedule place number edit value (stepped setting event (world_before setting schedule before))
editing_next setting schedule place number edit value before later event splits some facts unsettled step counted editing =
    by (bytes_eq (edit_hash setting editing.edit) (edit_hash setting edit)) refl
  where
    world : World
    world = world_before setting schedule before

    old : Side
    old = side_at (world_before setting schedule before) (suc place) (edit_kind edit)

    by : (same : Bool) → bytes_eq (edit_hash setting editing.edit) (edit_hash setting edit) ≡ same
        → Next setting schedule place number edit value (stepped setting event (world_before setting schedule before))
    by true is =
        let same : edit_hash setting editing.edit ≡ edit_hash setting edit = (bytes_eq-Decides (edit_hash setting editing.edit) (edit_hash setting edit)).0 is
        in inr (
          Followed (old.last_edit + 1),
          step.fates number ∙ or_given (fate_of world.settlements (suc place) (edit_kind edit) number) (step.noted number) (Some (Followed (old.last_edit + 1))) unsettled.lacks_fate
              (editing.settles number ∙ follows_own (state_at old.states (edit_hash setting editing.edit)).due (old.last_edit + 1) number
              (ap (λ (hash : List ℕ). (state_at old.states hash).due) same ∙ unsettled.stands.due)),
          followed_true setting schedule place number edit before later event step.noted splits editing same unsettled.counted,
        )
    by false is =
        let differs : edit_hash setting editing.edit ≡ edit_hash setting edit → ⊥
        = λ same. false≢true (sym is ∙ (bytes_eq-Decides (edit_hash setting editing.edit) (edit_hash setting edit)).1 same)
        in inl (left setting event world place (edit_kind edit) number (edit_hash setting edit) value facts unsettled step counted
        (subst (λ (states : States). StandsOn number (edit_hash setting edit) value states) (sym editing.states)
        (edited_stands number old.last_edit (old.last_edit + 1) (edit_hash setting edit) (edit_hash setting editing.edit) value
        (edit_value (own_at old (edit_hash setting editing.edit)) editing.edit) old.states
        unsettled.counted refl differs unsettled.stands))
        (editing.settles number ∙ follows_other (state_at old.states (edit_hash setting editing.edit)).due
        (state_at old.states (edit_hash setting editing.edit)).last_edit (old.last_edit + 1) number
        (numbered_at old.last_edit old.states (edit_hash setting editing.edit) (facts.keys place (edit_kind edit))).due
        (λ is. differs (only_at number (edit_hash setting edit) value old.states (edit_hash setting editing.edit) some unsettled.stands is).0)))
