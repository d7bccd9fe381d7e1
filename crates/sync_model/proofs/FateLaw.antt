-- Each acknowledged edit has one fate, and what it says is so.
use Rattle.std.proofs.Common.{◌≡◌, ℕ, zero, suc, ◌<◌, ◌++◌, List, [], ◌∷◌, Option, Some, sym, ap, ◌∙◌, subst, arith, inl, inr}
use Rattle.std.specs.Option.{option_or}
use Rattle.std.proofs.lemmas.List.{append_assoc}
use Rattle.client_tags.specs.declared.Kind.{Kind}
use Rattle.sync_values.specs.declared.edit.Edit.{Edit}
use Rattle.sync_values.specs.declared.value.Value.{Value}
use Rattle.sync_model.specs.declared.event.Event.{Event}
use Rattle.sync_model.specs.declared.event.Schedule.{Schedule}
use Rattle.sync_model.specs.declared.fate.Fate.{Fate}
use Rattle.sync_model.specs.Edits.{edit_kind}
use Rattle.sync_model.specs.Settings.{Setting}
use Rattle.sync_model.specs.Changes.{edit_hash}
use Rattle.sync_model.specs.Fates.{fate_of}
use Rattle.sync_model.specs.Worlds.{World, stepped, run, world_of}
use Rattle.sync_model.specs.Laws.{world_before, IsMade, IsTrueFate, EveryFateIsTrue}
use Rattle.sync_model.specs.Facts.{WorldFacts}
use Rattle.sync_model.specs.FateFacts.{NumberFacts, IsUnsettled}
use Rattle.sync_model.proofs.KnownWorlds.{world_of-facts}
use Rattle.sync_model.proofs.FateStays.{later_world, next_world}
use Rattle.sync_model.proofs.FateNumbers.{stepped_counted, stepped-numbers, world_of-numbers}
use Rattle.sync_model.proofs.FateEdits.{Next}
use Rattle.sync_model.proofs.FateTurns.{edit_next}
use Rattle.sync_model.proofs.FateStarts.{made_edits, made_by_some, starts_unsettled}

-- an edit that is settled stays so, by the same fate
run-settled : (setting : Setting) (world : World) (events : List Event) (place : ℕ) (kind : Kind) (number : ℕ) (fate : Fate) → NumberFacts world
    → fate_of world.settlements (suc place) kind number ≡ Some fate → fate_of (run setting world events).settlements (suc place) kind number ≡ Some fate
unfolding run
run-settled setting world [] place kind number fate facts is = is
run-settled setting world (event ∷ events) place kind number fate facts is =
    let step = (stepped_counted setting event world facts place kind).0
    in run-settled setting (stepped setting event world) events place kind number fate (stepped-numbers setting event world facts)
    (step.fates number ∙ ap (λ (found : Option Fate). option_or found (step.noted number)) is)

-- what holds of the world before each event
pub before-numbers : (setting : Setting) (schedule : Schedule) (before : List Event) → NumberFacts (world_before setting schedule before)
before-numbers setting schedule before = world_of-numbers setting (record schedule { events = before })

before-facts : (setting : Setting) (schedule : Schedule) (before : List Event) → WorldFacts (world_before setting schedule before)
before-facts setting schedule before = world_of-facts setting (record schedule { events = before })

-- at the end an edit that is not settled stands
ends_standing : (setting : Setting) (schedule : Schedule) (place number : ℕ) (edit : Edit) (value : Value)
    → IsUnsettled (suc place) (edit_kind edit) number (edit_hash setting edit) value (world_of setting schedule)
    → IsTrueFate setting schedule (suc place) number edit value (fate_of (world_of setting schedule).settlements (suc place) (edit_kind edit) number)
ends_standing setting schedule place number edit value unsettled =
    subst (λ (found : Option Fate). IsTrueFate setting schedule (suc place) number edit value found) (sym unsettled.lacks_fate)
    record { due = unsettled.stands.due; own = unsettled.stands.own }

-- an edit that an event has settled is so at the end
ends_settled : (setting : Setting) (schedule : Schedule) (place number : ℕ) (edit : Edit) (value : Value) (before later : List Event) (event : Event) (fate : Fate)
    → schedule.events ≡ before ++ event ∷ later
    → fate_of (stepped setting event (world_before setting schedule before)).settlements (suc place) (edit_kind edit) number ≡ Some fate
    → IsTrueFate setting schedule (suc place) number edit value (Some fate)
    → IsTrueFate setting schedule (suc place) number edit value (fate_of (world_of setting schedule).settlements (suc place) (edit_kind edit) number)
unfolding run
ends_settled setting schedule place number edit value before later event fate splits settled is_so =
    let whole : fate_of (world_of setting schedule).settlements (suc place) (edit_kind edit) number ≡ Some fate
    = ap (λ (world : World). fate_of world.settlements (suc place) (edit_kind edit) number) (later_world setting schedule before (event ∷ later) splits)
    ∙ run-settled setting (stepped setting event (world_before setting schedule before)) later place (edit_kind edit) number fate
    (stepped-numbers setting event (world_before setting schedule before) (before-numbers setting schedule before)) settled
    in subst (λ (found : Option Fate). IsTrueFate setting schedule (suc place) number edit value found) (sym whole) is_so

-- an edit that is not settled before some events has a true fate after them
ends_by : (setting : Setting) (schedule : Schedule) (place number : ℕ) (edit : Edit) (value : Value) (before later : List Event) (event : Event)
    → schedule.events ≡ before ++ event ∷ later
    → Next setting schedule place number edit value (stepped setting event (world_before setting schedule before))
    → (IsUnsettled (suc place) (edit_kind edit) number (edit_hash setting edit) value (world_before setting schedule (before ++ event ∷ []))
    → IsTrueFate setting schedule (suc place) number edit value (fate_of (world_of setting schedule).settlements (suc place) (edit_kind edit) number))
    → IsTrueFate setting schedule (suc place) number edit value (fate_of (world_of setting schedule).settlements (suc place) (edit_kind edit) number)
ends_by setting schedule place number edit value before later event splits (inl unsettled) rest =
    rest (subst (λ (world : World). IsUnsettled (suc place) (edit_kind edit) number (edit_hash setting edit) value world)
    (sym (next_world setting schedule before event)) unsettled)
ends_by setting schedule place number edit value before later event splits (inr settled) rest =
    ends_settled setting schedule place number edit value before later event settled.0 splits settled.1 settled.2

-- events with one more of them taken first
pub one_more : (before later : List Event) (event : Event) → before ++ event ∷ later ≡ (before ++ event ∷ []) ++ later
one_more before later event = sym (append_assoc before (event ∷ []) later)

ends_true : (setting : Setting) (schedule : Schedule) (place number : ℕ) (edit : Edit) (value : Value) (later before : List Event)
    → schedule.events ≡ before ++ later → 0 < number
    → IsUnsettled (suc place) (edit_kind edit) number (edit_hash setting edit) value (world_before setting schedule before)
    → IsTrueFate setting schedule (suc place) number edit value (fate_of (world_of setting schedule).settlements (suc place) (edit_kind edit) number)
unfolding run
ends_true setting schedule place number edit value [] before splits some unsettled =
    ends_standing setting schedule place number edit value
    (subst (λ (world : World). IsUnsettled (suc place) (edit_kind edit) number (edit_hash setting edit) value world)
    (sym (later_world setting schedule before [] splits)) unsettled)
ends_true setting schedule place number edit value (event ∷ later) before splits some unsettled =
    ends_by setting schedule place number edit value before later event splits
    (edit_next setting schedule place number edit value before later event splits some (before-numbers setting schedule before) (before-facts setting schedule before) unsettled)
    (λ unsettled. ends_true setting schedule place number edit value later (before ++ event ∷ []) (splits ∙ one_more before later event) some unsettled)

-- an edit that was made has a true fate
pub made_true : (setting : Setting) (schedule : Schedule) (client number : ℕ) (edit : Edit) (value : Value) → IsMade setting schedule client number edit value
    → IsTrueFate setting schedule client number edit value (fate_of (world_of setting schedule).settlements client (edit_kind edit) number)
made_true setting schedule zero number edit value made =
    absurd (made_by_some setting made.event (world_before setting schedule made.before) edit made.user made.makes made.done)
made_true setting schedule (suc place) number edit value made =
    ends_true setting schedule place number edit value made.later (made.before ++ made.event ∷ [])
    (made.splits ∙ one_more made.before made.later made.event) (omega (arith, made.counts))
    (subst (λ (world : World). IsUnsettled (suc place) (edit_kind edit) number (edit_hash setting edit) value world)
    (sym (next_world setting schedule made.before made.event))
    (starts_unsettled setting made.event (world_before setting schedule made.before) place number edit value (before-numbers setting schedule made.before) made.is_value made.counts
    (made_edits setting made.event (world_before setting schedule made.before) place edit made.user made.makes made.done)))

pub world_of-EveryFateIsTrue : EveryFateIsTrue
world_of-EveryFateIsTrue setting allowed schedule client number edit value acknowledged = made_true setting schedule client number edit value acknowledged.made
