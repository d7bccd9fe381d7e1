-- No two edits of a client and a type have one number, and a report lists those that were acknowledged, in order.
use Rattle.std.proofs.Common.{◌≡◌, ℕ, zero, suc, ◌+◌, ◌<◌, ◌≤◌, ◌++◌, ◌⊎◌, ◌&&◌, Bool, true, false, cond, List, [], ◌∷◌, length, drop, slice_index, slice_index_or, refl, sym, ap, ap₂, ◌∙◌, subst, arith, inl, inr, eqb, le_trans}
use Rattle.std.specs.List.{Contains}
use Rattle.std.specs.List.Sorted.{IsStrictlyIncreasing}
use Rattle.std.proofs.lemmas.Bool.{eqb-true, eq-eqb, and_parts, and_from, false≢true}
use Rattle.std.proofs.lemmas.List.{append-nil}
use Rattle.std.proofs.lemmas.List.Elements.{Contains-append_left, Contains-append_right, Contains-append_cases, Contains-push_cases}
use Rattle.std.proofs.lemmas.Option.{same_Some}
use Rattle.client_tags.specs.declared.Kind.{Kind}
use Rattle.sync_values.specs.declared.edit.Edit.{Edit}
use Rattle.sync_values.specs.declared.value.Value.{Value}
use Rattle.sync_model.specs.declared.event.Event.{Event}
use Rattle.sync_model.specs.declared.event.EventOutcome.{EventOutcome}
use Rattle.sync_model.specs.declared.event.EventOutcome.TheVariants.{Void, Done, Edited, Requested, Delivered}
use Rattle.sync_model.specs.declared.event.Schedule.{Schedule}
use Rattle.sync_model.specs.Values.{same_kind}
use Rattle.sync_model.specs.Edits.{edit_kind, edit_value}
use Rattle.sync_model.specs.Settings.{Setting}
use Rattle.sync_model.specs.Servers.{reply_to}
use Rattle.sync_model.specs.Clients.{side_of}
use Rattle.sync_model.specs.Fates.{edit_made, edits_made}
use Rattle.sync_model.specs.Report.{is_void}
use Rattle.sync_model.specs.Worlds.{World, client_at, STORE_BIRTHDAY, is_invalid_entry, stepped, run, world_of}
use Rattle.sync_model.specs.Laws.{world_before, last_outcome, edit_by, state_of_edit, IsMade, AreOneEdit, NumbersAreOfOneEdit, IsListed, EveryNumberIsTrue}
use Rattle.sync_model.specs.FateFacts.{side_at, NumberFacts}
use Rattle.sync_model.proofs.Writes.{same_kind-true, same_kind-refl}
use Rattle.sync_model.proofs.FateStays.{Stays, later_world, next_world, stays_to_end}
use Rattle.sync_model.proofs.FateNumbers.{stepped_counted, stepped-numbers}
use Rattle.sync_model.proofs.FateLaw.{before-numbers, one_more}
use Rattle.sync_model.proofs.FateStarts.{IsEdited, made_edits, made_by_some}
use Rattle.sync_model.proofs.StepOutcomes.{IsToldOf, IsOutcomeOf, IsUnserved, IsServed, stepped_served, last_is_outcome, stepped_outcomes}

-- two splits of a list are one, or one ends before the other
abbrev AreSplits : {X : Type 0} → List X → X → List X → List X → X → List X → Type 0
AreSplits {X} before x after others y rest =
    ((before ≡ others) × (x ≡ y) × (after ≡ rest))
    ⊎ (((between : List X) × (others ≡ before ++ x ∷ between)) ⊎ ((between : List X) × (before ≡ others ++ y ∷ between)))

head_same : {X : Type 0} (x y : X) (xs ys : List X) → x ∷ xs ≡ y ∷ ys → x ≡ y
head_same x y xs ys same = ap (λ (all : List _). slice_index_or all 0 x) same

tail_same : {X : Type 0} (x y : X) (xs ys : List X) → x ∷ xs ≡ y ∷ ys → xs ≡ ys
tail_same x y xs ys same = ap (λ (all : List _). drop 1 all) same

splits_of : {X : Type 0} (before : List X) (x : X) (after others : List X) (y : X) (rest : List X) → before ++ x ∷ after ≡ others ++ y ∷ rest
    → AreSplits before x after others y rest
splits_of [] x after [] y rest same = inl (refl, head_same x y after rest same, tail_same x y after rest same)
splits_of [] x after (other ∷ others) y rest same =
    inr (inl (others, ap (λ (found : _). found ∷ others) (sym (head_same x other after (others ++ y ∷ rest) same))))
splits_of (first ∷ before) x after [] y rest same =
    inr (inr (before, ap (λ (found : _). found ∷ before) (head_same first y (before ++ x ∷ after) rest same)))
splits_of (first ∷ before) x after (other ∷ others) y rest same =
    by (splits_of before x after others y rest (tail_same first other (before ++ x ∷ after) (others ++ y ∷ rest) same))
  where
    here : first ≡ other
    here = head_same first other (before ++ x ∷ after) (others ++ y ∷ rest) same

    by : AreSplits before x after others y rest → AreSplits (first ∷ before) x after (other ∷ others) y rest
    by (inl one) = inl (ap₂ (λ (found : _) (all : List _). found ∷ all) here one.0, one.1, one.2)
    by (inr (inl less)) = inr (inl (less.0, ap₂ (λ (found : _) (all : List _). found ∷ all) (sym here) less.1))
    by (inr (inr more)) = inr (inr (more.0, ap₂ (λ (found : _) (all : List _). found ∷ all) here more.1))

-- the number of a side's last edit in the world before some events
abbrev last_of : Setting → Schedule → ℕ → Kind → List Event → ℕ
last_of setting schedule client kind before = (side_at (world_before setting schedule before) client kind).last_edit

-- the number never falls
run-grows : (setting : Setting) (world : World) (events : List Event) (place : ℕ) (kind : Kind) → NumberFacts world
    → (side_at world (suc place) kind).last_edit ≤ (side_at (run setting world events) (suc place) kind).last_edit
unfolding run
run-grows setting world [] place kind facts = omega arith
run-grows setting world (event ∷ events) place kind facts =
    le_trans (stepped_counted setting event world facts place kind).1.grows
    (run-grows setting (stepped setting event world) events place kind (stepped-numbers setting event world facts))

-- the number is no less once more events have come
later-grows : (setting : Setting) (schedule : Schedule) (place : ℕ) (kind : Kind) (before rest whole : List Event) (event : Event)
    → whole ≡ before ++ event ∷ rest
    → (side_at (stepped setting event (world_before setting schedule before)) (suc place) kind).last_edit ≤ last_of setting schedule (suc place) kind whole
unfolding run
later-grows setting schedule place kind before rest whole event is =
    subst (λ (world : World). (side_at (stepped setting event (world_before setting schedule before)) (suc place) kind).last_edit ≤ (side_at world (suc place) kind).last_edit)
    (sym (later_world setting (record schedule { events = whole }) before (event ∷ rest) is))
    (run-grows setting (stepped setting event (world_before setting schedule before)) rest place kind
    (stepped-numbers setting event (world_before setting schedule before) (before-numbers setting schedule before)))

-- an edit that was made has the number after the last one before it, and is the last one after it
made_next : (setting : Setting) (schedule : Schedule) (place number : ℕ) (edit : Edit) (value : Value) (kind : Kind) → edit_kind edit ≡ kind
    → (made : IsMade setting schedule (suc place) number edit value)
    → (number ≡ last_of setting schedule (suc place) kind made.before + 1)
    × ((side_at (stepped setting made.event (world_before setting schedule made.before)) (suc place) kind).last_edit ≡ number)
made_next setting schedule place number edit value kind of_kind made =
    subst (λ (found : Kind). (number ≡ last_of setting schedule (suc place) found made.before + 1)
    × ((side_at (stepped setting made.event (world_before setting schedule made.before)) (suc place) found).last_edit ≡ number)) of_kind
    (made.counts, edits.last ∙ sym made.counts)
  where
    edits : IsEdited setting edit (side_at (world_before setting schedule made.before) (suc place) (edit_kind edit))
        (side_at (stepped setting made.event (world_before setting schedule made.before)) (suc place) (edit_kind edit))
    edits = made_edits setting made.event (world_before setting schedule made.before) place edit made.user made.makes made.done

-- two edits whose events are in different places have different numbers
apart : {P : Type 0} (setting : Setting) (schedule : Schedule) (place number : ℕ) (first second : Edit) (one other : Value) → edit_kind first ≡ edit_kind second
    → (left : IsMade setting schedule (suc place) number first one) (right : IsMade setting schedule (suc place) number second other)
    → (between : List Event) → right.before ≡ left.before ++ left.event ∷ between → P
apart setting schedule place number first second one other of_kind left right between is =
    let after = (made_next setting schedule place number first one (edit_kind first) refl left).1
    in let next = (made_next setting schedule place number second other (edit_kind first) (sym of_kind) right).0
    in absurd (omega (arith, after, next, later-grows setting schedule place (edit_kind first) left.before between right.before left.event is))

one_edit : (setting : Setting) (schedule : Schedule) (place number : ℕ) (first second : Edit) (one other : Value) → edit_kind first ≡ edit_kind second
    → (left : IsMade setting schedule (suc place) number first one) (right : IsMade setting schedule (suc place) number second other)
    → AreOneEdit left right
one_edit setting schedule place number first second one other of_kind left right =
    by (splits_of left.before left.event left.later right.before right.event right.later (sym left.splits ∙ right.splits))
  where
    by : AreSplits left.before left.event left.later right.before right.event right.later → AreOneEdit left right
    by (inl same) =
        let edit : first ≡ second = same_Some first second (sym left.makes
        ∙ ap₂ (λ (before : List Event) (event : Event). edit_by setting (world_before setting schedule before) event) same.0 same.1 ∙ right.makes)
        in record {
          before = same.0;
          event = same.1;
          later = same.2;
          edit = edit;
          value = left.is_value
              ∙ ap₂ (λ (before : List Event) (found : Edit). edit_value (state_of_edit setting (world_before setting schedule before) (suc place) found).own found) same.0 edit
              ∙ sym right.is_value;
        }
    by (inr (inl less)) = apart setting schedule place number first second one other of_kind left right less.0 less.1
    by (inr (inr more)) = apart setting schedule place number second first other one (sym of_kind) right left more.0 more.1

-- two edits of a client and a type that have one number are one edit
world_of-NumbersAreOfOneEdit : (setting : Setting) (schedule : Schedule) → NumbersAreOfOneEdit setting schedule
world_of-NumbersAreOfOneEdit setting schedule zero number first second one other of_kind left right =
    absurd (made_by_some setting left.event (world_before setting schedule left.before) first left.user left.makes left.done)
world_of-NumbersAreOfOneEdit setting schedule (suc place) number first second one other of_kind left right =
    one_edit setting schedule place number first second one other of_kind left right

-- nothing is in an empty list
no_number : (number : ℕ) → Contains [] number → ⊥
no_number number has = omega (arith, has.1)

-- what is listed of an outcome that is no delivery is the edit that its event made
listed_by : (setting : Setting) (event : Event) (world : World) (client : ℕ) (kind : Kind) (number editor : ℕ) (edited : Kind) (given : ℕ) (is : Bool)
    → (eqb editor client && same_kind edited kind) ≡ is → IsToldOf setting event world editor edited given
    → Contains (cond is (given ∷ []) []) number
    → (Edited editor edited given ≡ Edited client kind number) × IsToldOf setting event world client kind number
listed_by setting event world client kind number editor edited given true is told has =
    let parts = and_parts (eqb editor client) (same_kind edited kind) is
    in same (eqb-true editor client parts.0) (same_kind-true edited kind parts.1) (only (Contains-push_cases [] given number has))
  where
    only : (Contains [] number ⊎ (given ≡ number)) → given ≡ number
    only (inl none) = absurd (no_number number none)
    only (inr here) = here

    same : editor ≡ client → edited ≡ kind → given ≡ number
        → (Edited editor edited given ≡ Edited client kind number) × IsToldOf setting event world client kind number
    same clients kinds numbers = (
      ap (λ (found : ℕ). Edited found edited given) clients ∙ ap (λ (found : Kind). Edited client found given) kinds ∙ ap (λ (found : ℕ). Edited client kind found) numbers,
      subst (λ (found : ℕ). IsToldOf setting event world client kind found) numbers
          (subst (λ (found : Kind). IsToldOf setting event world client found given) kinds
          (subst (λ (found : ℕ). IsToldOf setting event world found edited given) clients told)),
    )
listed_by setting event world client kind number editor edited given false is told has = absurd (no_number number has)

listed_told : (setting : Setting) (event : Event) (world : World) (client : ℕ) (kind : Kind) (number : ℕ) (outcome : EventOutcome)
    → IsOutcomeOf setting event world outcome → Contains (edit_made client kind outcome) number
    → (outcome ≡ Edited client kind number) × IsToldOf setting event world client kind number
listed_told setting event world client kind number (Edited editor edited given) is has =
    listed_by setting event world client kind number editor edited given (eqb editor client && same_kind edited kind) refl is has
listed_told setting event world client kind number Void is has = absurd (no_number number has)
listed_told setting event world client kind number Done is has = absurd (no_number number has)
listed_told setting event world client kind number (Requested author request) is has = absurd (no_number number has)
listed_told setting event world client kind number (Delivered request reply) is has = absurd is

-- what an event adds to a list is the edit that it made
abbrev Tells : Setting → Event → World → ℕ → Kind → ℕ → Type 0
Tells setting event world client kind number =
    (last_outcome (stepped setting event world) ≡ Edited client kind number) × IsToldOf setting event world client kind number

added_told : (setting : Setting) (event : Event) (world : World) (client : ℕ) (kind : Kind) (number : ℕ)
    → Contains (edit_made client kind (last_outcome (stepped setting event world))) number → Tells setting event world client kind number
added_told setting event world client kind number has = by (stepped_served setting event world)
  where
    by : IsUnserved setting event world (stepped setting event world) ⊎ IsServed world (stepped setting event world)
        → Tells setting event world client kind number
    by (inl unserved) =
        let last : last_outcome (stepped setting event world) ≡ unserved.outcome
        = last_is_outcome world (stepped setting event world) unserved.outcome unserved.outcomes
        in let told = listed_told setting event world client kind number unserved.outcome unserved.is
        (subst (λ (found : EventOutcome). Contains (edit_made client kind found) number) last has)
        in (last ∙ told.0, told.1)
    by (inr served) =
        let last = last_is_outcome world (stepped setting event world)
        (Delivered served.event (reply_to is_invalid_entry STORE_BIRTHDAY world.history served.request)) served.outcomes
        in absurd (no_number number (subst (λ (found : EventOutcome). Contains (edit_made client kind found) number) last has))

-- an edit that an event acknowledged
acknowledged_of : (setting : Setting) (schedule : Schedule) (client : ℕ) (kind : Kind) (number : ℕ) (before later : List Event) (event : Event)
    → schedule.events ≡ before ++ event ∷ later → Tells setting event (world_before setting schedule before) client kind number
    → IsListed setting schedule client kind number
acknowledged_of setting schedule client kind number before later event splits told = record {
  edit = told.1.edit;
  value = edit_value (state_of_edit setting (world_before setting schedule before) client told.1.edit).own told.1.edit;
  of_kind = told.1.of_kind;
  is_acknowledged = record {
    made = record {
      before = before;
      event = event;
      later = later;
      splits = splits;
      user = told.1.user;
      makes = told.1.makes;
      counts = subst (λ (found : Kind). number ≡ (side_of (client_at (world_before setting schedule before).clients client) found).last_edit + 1)
          (sym told.1.of_kind) told.1.counts;
      done = ap is_void told.0;
      is_value = refl;
    };
    tells = told.0 ∙ ap (λ (found : Kind). Edited client found number) (sym told.1.of_kind);
  };
}

-- the edits that are listed before some events
abbrev list_before : Setting → Schedule → ℕ → Kind → List Event → List ℕ
list_before setting schedule client kind before = edits_made client kind (world_before setting schedule before).outcomes

list_next : (setting : Setting) (schedule : Schedule) (client : ℕ) (kind : Kind) (before : List Event) (event : Event)
    → list_before setting schedule client kind (before ++ event ∷ [])
    ≡ list_before setting schedule client kind before
    ++ edit_made client kind (last_outcome (stepped setting event (world_before setting schedule before)))
unfolding edits_made
list_next setting schedule client kind before event =
    ap (λ (world : World). edits_made client kind world.outcomes) (next_world setting schedule before event)
    ∙ ap (λ (outcomes : List EventOutcome). edits_made client kind outcomes) (stepped_outcomes setting event (world_before setting schedule before))

list_whole : (setting : Setting) (schedule : Schedule) (client : ℕ) (kind : Kind) (before : List Event) → schedule.events ≡ before ++ []
    → edits_made client kind (world_of setting schedule).outcomes ≡ list_before setting schedule client kind before
unfolding run
list_whole setting schedule client kind before splits =
    ap (λ (world : World). edits_made client kind world.outcomes) (later_world setting schedule before [] splits)

-- each number that is listed is of an acknowledged edit
abbrev AreListed : Setting → Schedule → ℕ → Kind → List ℕ → Type 0
AreListed setting schedule client kind numbers = (number : ℕ) → Contains numbers number → IsListed setting schedule client kind number

listed_true : (setting : Setting) (schedule : Schedule) (client : ℕ) (kind : Kind) (later before : List Event) → schedule.events ≡ before ++ later
    → AreListed setting schedule client kind (list_before setting schedule client kind before)
    → AreListed setting schedule client kind (edits_made client kind (world_of setting schedule).outcomes)
listed_true setting schedule client kind [] before splits all =
    subst (λ (numbers : List ℕ). AreListed setting schedule client kind numbers) (sym (list_whole setting schedule client kind before splits)) all
listed_true setting schedule client kind (event ∷ later) before splits all =
    listed_true setting schedule client kind later (before ++ event ∷ []) (splits ∙ one_more before later event)
    (subst (λ (numbers : List ℕ). AreListed setting schedule client kind numbers) (sym (list_next setting schedule client kind before event))
    (λ number has. by number (Contains-append_cases (list_before setting schedule client kind before)
    (edit_made client kind (last_outcome (stepped setting event (world_before setting schedule before)))) number has)))
  where
    by : (number : ℕ) → (Contains (list_before setting schedule client kind before) number
        ⊎ Contains (edit_made client kind (last_outcome (stepped setting event (world_before setting schedule before)))) number)
        → IsListed setting schedule client kind number
    by number (inl old) = all number old
    by number (inr new) = acknowledged_of setting schedule client kind number before later event splits
        (added_told setting event (world_before setting schedule before) client kind number new)

all_listed : (setting : Setting) (schedule : Schedule) (client : ℕ) (kind : Kind)
    → AreListed setting schedule client kind (edits_made client kind (world_of setting schedule).outcomes)
unfolding edits_made run
all_listed setting schedule client kind =
    listed_true setting schedule client kind schedule.events [] refl (λ number has. absurd (no_number number has))

-- an acknowledged edit is listed, and stays so
listed-stays : (client : ℕ) (kind : Kind) (number : ℕ) → Stays (λ history outcomes. Contains (edits_made client kind outcomes) number)
unfolding edits_made
listed-stays client kind number = record {
  longer = λ history outcomes next has. has;
  later = λ history outcomes outcome has. Contains-append_left (edits_made client kind outcomes) (edit_made client kind outcome) number has;
}

is_own_edit : (client : ℕ) (kind : Kind) (number : ℕ) → Contains (edit_made client kind (Edited client kind number)) number
is_own_edit client kind number = by (eqb client client && same_kind kind kind) (and_from _ _ (eq-eqb client client refl) (same_kind-refl kind))
  where
    by : (is : Bool) → is ≡ true → Contains (cond is (number ∷ []) []) number
    by true is = (0, omega arith, refl)
    by false is = absurd (false≢true is)

listed_at : (setting : Setting) (schedule : Schedule) (client : ℕ) (kind : Kind) (number : ℕ) (before later : List Event) (event : Event)
    → schedule.events ≡ before ++ event ∷ later
    → last_outcome (stepped setting event (world_before setting schedule before)) ≡ Edited client kind number
    → Contains (edits_made client kind (world_of setting schedule).outcomes) number
listed_at setting schedule client kind number before later event splits is =
    stays_to_end (λ history outcomes. Contains (edits_made client kind outcomes) number) (listed-stays client kind number)
    setting schedule (before ++ event ∷ []) later (splits ∙ one_more before later event)
    (subst (λ (numbers : List ℕ). Contains numbers number) (sym (list_next setting schedule client kind before event))
    (Contains-append_right (list_before setting schedule client kind before)
    (edit_made client kind (last_outcome (stepped setting event (world_before setting schedule before)))) number
    (subst (λ (outcome : EventOutcome). Contains (edit_made client kind outcome) number) (sym is) (is_own_edit client kind number))))

each_listed : (setting : Setting) (schedule : Schedule) (client : ℕ) (kind : Kind) (number : ℕ) → IsListed setting schedule client kind number
    → Contains (edits_made client kind (world_of setting schedule).outcomes) number
each_listed setting schedule client kind number listed =
    let made = listed.is_acknowledged.made
    in listed_at setting schedule client kind number made.before made.later made.event made.splits
    (listed.is_acknowledged.tells ∙ ap (λ (found : Kind). Edited client found number) listed.of_kind)

-- each number of a list is below the next
abbrev Rises : List ℕ → Type 0
Rises numbers = (place : ℕ) → suc place < length numbers → slice_index numbers place < slice_index numbers (suc place)

plus_one : (place : ℕ) → place + 1 ≡ suc place
plus_one place = omega arith

rises : (numbers : List ℕ) → IsStrictlyIncreasing numbers → Rises numbers
rises numbers increasing place within =
    subst (λ (next : ℕ). slice_index numbers place < slice_index numbers next) (plus_one place) (increasing place (omega (arith, within)))

-- a number above those of a list, at its end
push_rises : (numbers : List ℕ) (number : ℕ) → Rises numbers → ((other : ℕ) → Contains numbers other → other < number) → Rises (numbers ++ number ∷ [])
push_rises [] number rising below place within = absurd (omega (arith, within))
push_rises (first ∷ []) number rising below zero within = below first (0, omega arith, refl)
push_rises (first ∷ []) number rising below (suc place) within = absurd (omega (arith, within))
push_rises (first ∷ second ∷ numbers) number rising below zero within = rising 0 (omega arith)
push_rises (first ∷ second ∷ numbers) number rising below (suc place) within =
    push_rises (second ∷ numbers) number (λ at less. rising (suc at) (omega (arith, less)))
    (λ other has. below other (Contains-append_right (first ∷ []) (second ∷ numbers) other has)) place (omega (arith, within))

push_increasing : (numbers : List ℕ) (number : ℕ) → IsStrictlyIncreasing numbers → ((other : ℕ) → Contains numbers other → other < number)
    → IsStrictlyIncreasing (numbers ++ number ∷ [])
push_increasing numbers number increasing below place within =
    subst (λ (next : ℕ). slice_index (numbers ++ number ∷ []) place < slice_index (numbers ++ number ∷ []) next) (sym (plus_one place))
    (push_rises numbers number (rises numbers increasing) below place (omega (arith, within)))

-- no number that is listed is above the last one
listed_le : (setting : Setting) (schedule : Schedule) (client : ℕ) (kind : Kind) (number : ℕ) (before : List Event)
    → IsListed setting (record schedule { events = before }) client kind number → number ≤ last_of setting schedule client kind before
listed_le setting schedule zero kind number before listed =
    let made = listed.is_acknowledged.made
    in absurd (made_by_some setting made.event (world_before setting schedule made.before) listed.edit made.user made.makes made.done)
listed_le setting schedule (suc place) kind number before listed =
    let made = listed.is_acknowledged.made
    in let last = (made_next setting (record schedule { events = before }) place number listed.edit listed.value kind listed.of_kind made).1
    in omega (arith, last, later-grows setting schedule place kind made.before made.later before made.event made.splits)

ascends : (setting : Setting) (schedule : Schedule) (client : ℕ) (kind : Kind) (later before : List Event) → schedule.events ≡ before ++ later
    → IsStrictlyIncreasing (list_before setting schedule client kind before)
    → IsStrictlyIncreasing (edits_made client kind (world_of setting schedule).outcomes)
ascends setting schedule client kind [] before splits increasing =
    subst (λ (numbers : List ℕ). IsStrictlyIncreasing numbers) (sym (list_whole setting schedule client kind before splits)) increasing
ascends setting schedule client kind (event ∷ later) before splits increasing =
    ascends setting schedule client kind later (before ++ event ∷ []) (splits ∙ one_more before later event)
    (subst (λ (numbers : List ℕ). IsStrictlyIncreasing numbers) (sym (list_next setting schedule client kind before event))
    (by (last_outcome (stepped setting event (world_before setting schedule before))) refl))
  where
    world : World
    world = world_before setting schedule before

    numbers : List ℕ
    numbers = list_before setting schedule client kind before

    one : (given : ℕ) → Contains (edit_made client kind (last_outcome (stepped setting event world))) given → IsStrictlyIncreasing (numbers ++ given ∷ [])
    one given has = push_increasing numbers given increasing
        (λ other old. let told = (added_told setting event world client kind given has).1
        in let old_le = listed_le setting schedule client kind other before (all_listed setting (record schedule { events = before }) client kind other old)
        in omega (arith, told.counts, old_le))

    none : IsStrictlyIncreasing (numbers ++ [])
    none = subst (λ (found : List ℕ). IsStrictlyIncreasing found) (sym (append-nil numbers)) increasing

    if_own : (is : Bool) (given : ℕ) → (Contains (cond is (given ∷ []) []) given → IsStrictlyIncreasing (numbers ++ given ∷ []))
        → IsStrictlyIncreasing (numbers ++ cond is (given ∷ []) [])
    if_own true given pushed = pushed (0, omega arith, refl)
    if_own false given pushed = none

    by : (outcome : EventOutcome) → last_outcome (stepped setting event world) ≡ outcome → IsStrictlyIncreasing (numbers ++ edit_made client kind outcome)
    by Void is = none
    by Done is = none
    by (Requested author request) is = none
    by (Delivered request reply) is = none
    by (Edited editor edited given) is = if_own (eqb editor client && same_kind edited kind) given
        (λ has. one given (subst (λ (outcome : EventOutcome). Contains (edit_made client kind outcome) given) (sym is) has))

all_ascend : (setting : Setting) (schedule : Schedule) (client : ℕ) (kind : Kind) → IsStrictlyIncreasing (edits_made client kind (world_of setting schedule).outcomes)
unfolding edits_made run
all_ascend setting schedule client kind =
    ascends setting schedule client kind schedule.events [] refl (λ place within. absurd (omega (arith, within)))

pub world_of-EveryNumberIsTrue : EveryNumberIsTrue
world_of-EveryNumberIsTrue setting schedule = record {
  made = world_of-NumbersAreOfOneEdit setting schedule;
  acknowledged = λ client number first second one other of_kind left right.
      world_of-NumbersAreOfOneEdit setting schedule client number first second one other of_kind left.made right.made;
  listed = λ client kind number. (all_listed setting schedule client kind number, each_listed setting schedule client kind number);
  ascending = all_ascend setting schedule;
}
