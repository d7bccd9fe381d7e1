-- Stepping a world through the events of a schedule.
use Rattle.std.proofs.Common.{◌≡◌, ℕ, zero, suc, ◌+◌, ◌<◌, ◌≤◌, List, [], ◌∷◌, length, get_or, drop, refl, sym, ◌∙◌, ap, subst, add-one, arith}
use Rattle.std.proofs.Math.Seq.{drop-cons}
use Rattle.std.proofs.Math.ListN.{drop_of_length-le}
use Rattle.std.proofs.lemmas.Bool.{false≢true}
use Rattle.std.specs.Prelude.{IsTrue}
use Rattle.std.specs.List.{AllByRecursion}
use Rattle.sync_values.specs.declared.edit.Edit.{Edit as Change}
use Rattle.sync_values.specs.declared.edit.Edit.TheVariants.{SetPreference, NewerPreference, DeletePreference, SetPassword, NewerPassword, DeletePassword, SetNigori}
use Rattle.sync_model.specs.declared.event.Event.{Event}
use Rattle.sync_model.specs.declared.event.Event.TheVariants.{Edit, Cut, Turn, Gather, Post, Ask, Offer, Lose, Crash, Deliver, Answer, SetPass, GivePass}
use Rattle.sync_model.specs.declared.event.Schedule.{Schedule}
use Rattle.client_tags.specs.declared.Kind.TheVariants.{Preference}
use Rattle.sync_model.specs.Edits.{edit_kind}
use Rattle.run_setting.specs.Hashed.{hashed}
use Rattle.sync_model.specs.Worlds.{World, stepped, run}
use Rattle.schedule_text.specs.Spelling.{IsUpTo, IsEvent, IsBuilt, IsSchedule, IsBuiltSchedule, is_built_change}
use Rattle.schedule_text.proofs.CanonicalEdits.{change_is_canonical}
use Rattle.replay_world.specs.Events.{IsNumber, CanStep}

-- a number of a client in a schedule is one of the world's
number_of : (clients number : ℕ) → IsUpTo clients number → IsNumber clients number
number_of clients number within = record { from_one = within.0; within = within.1 }

-- a change that this stage knows is of a preference
preference_edit : (change : Change) → IsTrue (is_built_change change) → edit_kind change ≡ Preference
preference_edit (SetPreference preference) built = refl
preference_edit (NewerPreference preference) built = refl
preference_edit (DeletePreference name) built = refl
preference_edit (SetPassword password) built = absurd (false≢true built)
preference_edit (NewerPassword password) built = absurd (false≢true built)
preference_edit (DeletePassword origin user_element user_value pass_element realm) built = absurd (false≢true built)
preference_edit (SetNigori keys) built = absurd (false≢true built)

-- an event that a schedule of this stage may have is one that a world can step
can_step : (clients passes : ℕ) (event : Event) → IsEvent clients passes event → IsBuilt event → CanStep clients event
can_step clients passes (Edit client change) known built =
    (number_of clients client known.0, preference_edit change built, change_is_canonical change known.1)
can_step clients passes (Turn client kind) known built = number_of clients client known
can_step clients passes (Gather client kind) known built = number_of clients client known
can_step clients passes (Post client kind) known built = number_of clients client known
can_step clients passes (Ask client) known built = number_of clients client known
can_step clients passes (Offer client) known built = number_of clients client known
can_step clients passes (Deliver event) known built = tt
can_step clients passes (Answer event) known built = tt
can_step clients passes (Cut client kept edit) known built = absurd (false≢true built)
can_step clients passes (Lose client) known built = absurd (false≢true built)
can_step clients passes (Crash client) known built = absurd (false≢true built)
can_step clients passes (SetPass client pass) known built = absurd (false≢true built)
can_step clients passes (GivePass client pass) known built = absurd (false≢true built)

-- what holds of each event holds of that at a place
holds_at : (P : Event → Type 0) (events : List Event) (i : ℕ) (d : Event)
    → AllByRecursion P events → i < length events → P (get_or events i d)
holds_at P [] i d all within = absurd (omega arith)
holds_at P (event ∷ events) zero d all within = all.0
holds_at P (event ∷ events) (suc i) d all within = holds_at P events i d all.1 (omega arith)

-- the event at a place of a schedule can be stepped
pub can_step_at : (schedule : Schedule) (clients i : ℕ) (event : Event) → IsSchedule schedule → IsBuiltSchedule schedule
    → clients ≡ schedule.clients → i < length schedule.events → event ≡ get_or schedule.events i event → CanStep clients event
can_step_at schedule clients i event valid built same within is =
    let known : IsEvent schedule.clients (length schedule.passes) event =
    subst (IsEvent schedule.clients (length schedule.passes)) (sym is)
    (holds_at (IsEvent schedule.clients (length schedule.passes)) schedule.events i event valid.events_are within) in
    subst (λ count. CanStep count event) (sym same)
    (can_step schedule.clients (length schedule.passes) event known
    (subst IsBuilt (sym is) (holds_at IsBuilt schedule.events i event built.events_are within)))

-- one step more makes the same world of what is ahead
pub step_ahead : (world made : World) (events : List Event) (i : ℕ) (event : Event)
    → i < length events → event ≡ get_or events i event → run hashed world (drop i events) ≡ made
    → run hashed (stepped hashed event world) (drop (i + 1) events) ≡ made
unfolding run
step_ahead world made events i event within is ahead =
    let behind : drop i events ≡ event ∷ drop (suc i) events =
    drop-cons events i event within ∙ ap (λ e. e ∷ drop (suc i) events) (sym is) in
    rw add-one (sym (ap (λ rest. run hashed world rest) behind) ∙ ahead)

-- where nothing is ahead, the world is made
pub none_ahead : (world made : World) (events : List Event) (i : ℕ)
    → length events ≤ i → run hashed world (drop i events) ≡ made → world ≡ made
unfolding run
none_ahead world made events i all ahead =
    sym (ap (λ rest. run hashed world rest) (drop_of_length-le events all)) ∙ ahead
