-- What was written, and what was sent and stored, stays so to the end of a schedule.
use Rattle.std.proofs.Common.{◌≡◌, ℕ, zero, suc, ◌++◌, Bool, true, false, cond, List, [], ◌∷◌, Option, Some, None, refl, sym, ap, ◌∙◌, subst}
use Rattle.sync_model.specs.declared.event.Event.{Event}
use Rattle.sync_model.specs.declared.event.Event.TheVariants.{Edit, Cut, Turn, Gather, Post, Ask, Offer, Lose, Crash, Deliver, Answer, SetPass, GivePass}
use Rattle.sync_model.specs.declared.event.EventOutcome.{EventOutcome}
use Rattle.sync_model.specs.declared.event.EventOutcome.TheVariants.{Void, Done, Edited, Requested, Delivered}
use Rattle.sync_model.specs.declared.event.Schedule.{Schedule}
use Rattle.sync_model.specs.declared.message.Content.{Content}
use Rattle.sync_model.specs.declared.message.Entry.{Entry}
use Rattle.sync_model.specs.declared.message.Reply.{Reply}
use Rattle.sync_model.specs.Settings.{Setting}
use Rattle.sync_model.specs.Servers.{reply_to, history_served}
use Rattle.sync_model.specs.Clients.{Client, Effect}
use Rattle.sync_model.specs.Receiving.{answer_effect}
use Rattle.sync_model.specs.Worlds.{World, opening, client_at, outcome_at, affected, acted, STORE_BIRTHDAY, is_invalid_entry, delivered, is_awaited, replied, answered, stepped, run, world_of}
use Rattle.sync_model.specs.Laws.{world_before}
use Rattle.sync_model.proofs.TrueAcks.{served-keeps}

-- a fact of a history and of outcomes that stays so under a further write and under a further outcome
abbrev pub Fact : Type 1
Fact = List (Entry Content) → List EventOutcome → Type 0

pub record Stays (Q : Fact) : Type 0 where
  pub longer : (history : List (Entry Content)) (outcomes : List EventOutcome) (next : Entry Content) → Q history outcomes → Q (next ∷ history) outcomes
  pub later : (history : List (Entry Content)) (outcomes : List EventOutcome) (outcome : EventOutcome) → Q history outcomes → Q history (outcome ∷ outcomes)

affected-stays : (Q : Fact) → Stays Q → (world : World) (number : ℕ) (effect : Option Effect) → Q world.history world.outcomes
    → Q (affected world number effect).history (affected world number effect).outcomes
unfolding affected
affected-stays Q stays world number None is = stays.later world.history world.outcomes Void is
affected-stays Q stays world number (Some effect) is = stays.later world.history world.outcomes effect.outcome is

acted-stays : (Q : Fact) → Stays Q → (world : World) (number : ℕ) (event : Client → Option Effect) → Q world.history world.outcomes
    → Q (acted world number event).history (acted world number event).outcomes
acted-stays Q stays world zero event is = stays.later world.history world.outcomes Void is
acted-stays Q stays world (suc place) event is = affected-stays Q stays world (suc place) (event (client_at world.clients (suc place))) is

delivered-stays : (Q : Fact) → Stays Q → (world : World) (event : ℕ) (outcome : EventOutcome) → Q world.history world.outcomes
    → Q (delivered world event outcome).history (delivered world event outcome).outcomes
delivered-stays Q stays world event (Requested client request) is =
    stays.later (history_served is_invalid_entry STORE_BIRTHDAY world.history request) world.outcomes
    (Delivered event (reply_to is_invalid_entry STORE_BIRTHDAY world.history request))
    (served-keeps (λ history. Q history world.outcomes) (λ history next. stays.longer history world.outcomes next)
    is_invalid_entry STORE_BIRTHDAY world.history request is)
delivered-stays Q stays world event Void is = stays.later world.history world.outcomes Void is
delivered-stays Q stays world event Done is = stays.later world.history world.outcomes Void is
delivered-stays Q stays world event (Edited client kind number) is = stays.later world.history world.outcomes Void is
delivered-stays Q stays world event (Delivered request reply) is = stays.later world.history world.outcomes Void is

awaited-stays : (Q : Fact) → Stays Q → (world : World) (number : ℕ) (effect : Option Effect) (awaited : Bool) → Q world.history world.outcomes
    → Q (cond awaited (affected world number effect) (record world { outcomes = Void ∷ world.outcomes })).history
    (cond awaited (affected world number effect) (record world { outcomes = Void ∷ world.outcomes })).outcomes
awaited-stays Q stays world number effect true is = affected-stays Q stays world number effect is
awaited-stays Q stays world number effect false is = stays.later world.history world.outcomes Void is

replied-stays : (Q : Fact) → Stays Q → (world : World) (event : ℕ) (reply : Reply Content) (outcome : EventOutcome) → Q world.history world.outcomes
    → Q (replied world event reply outcome).history (replied world event reply outcome).outcomes
replied-stays Q stays world event reply (Requested client request) is =
    awaited-stays Q stays world client (answer_effect request reply (client_at world.clients client)) (is_awaited (client_at world.clients client).outstanding event) is
replied-stays Q stays world event reply Void is = stays.later world.history world.outcomes Void is
replied-stays Q stays world event reply Done is = stays.later world.history world.outcomes Void is
replied-stays Q stays world event reply (Edited client kind number) is = stays.later world.history world.outcomes Void is
replied-stays Q stays world event reply (Delivered other others) is = stays.later world.history world.outcomes Void is

answered-stays : (Q : Fact) → Stays Q → (world : World) (outcome : EventOutcome) → Q world.history world.outcomes
    → Q (answered world outcome).history (answered world outcome).outcomes
answered-stays Q stays world (Delivered request reply) is = replied-stays Q stays world request reply (outcome_at world.outcomes request) is
answered-stays Q stays world Void is = stays.later world.history world.outcomes Void is
answered-stays Q stays world Done is = stays.later world.history world.outcomes Void is
answered-stays Q stays world (Edited client kind number) is = stays.later world.history world.outcomes Void is
answered-stays Q stays world (Requested client request) is = stays.later world.history world.outcomes Void is

stepped-stays : (Q : Fact) → Stays Q → (setting : Setting) (event : Event) (world : World) → Q world.history world.outcomes
    → Q (stepped setting event world).history (stepped setting event world).outcomes
unfolding stepped
stepped-stays Q stays setting (Edit number edit) world is = acted-stays Q stays world number _ is
stepped-stays Q stays setting (Cut number kept edit) world is = acted-stays Q stays world number _ is
stepped-stays Q stays setting (Turn number kind) world is = acted-stays Q stays world number _ is
stepped-stays Q stays setting (Gather number kind) world is = acted-stays Q stays world number _ is
stepped-stays Q stays setting (Post number kind) world is = acted-stays Q stays world number _ is
stepped-stays Q stays setting (Ask number) world is = acted-stays Q stays world number _ is
stepped-stays Q stays setting (Offer number) world is = acted-stays Q stays world number _ is
stepped-stays Q stays setting (Lose number) world is = acted-stays Q stays world number _ is
stepped-stays Q stays setting (Crash number) world is = acted-stays Q stays world number _ is
stepped-stays Q stays setting (Deliver event) world is = delivered-stays Q stays world event (outcome_at world.outcomes event) is
stepped-stays Q stays setting (Answer event) world is = answered-stays Q stays world (outcome_at world.outcomes event) is
stepped-stays Q stays setting (SetPass number pass) world is = acted-stays Q stays world number _ is
stepped-stays Q stays setting (GivePass number pass) world is = acted-stays Q stays world number _ is

run-stays : (Q : Fact) → Stays Q → (setting : Setting) (world : World) (events : List Event) → Q world.history world.outcomes
    → Q (run setting world events).history (run setting world events).outcomes
unfolding run
run-stays Q stays setting world [] is = is
run-stays Q stays setting world (event ∷ events) is =
    run-stays Q stays setting (stepped setting event world) events (stepped-stays Q stays setting event world is)

-- a run of some events and then of others
run-append : (setting : Setting) (world : World) (before later : List Event) → run setting world (before ++ later) ≡ run setting (run setting world before) later
unfolding run
run-append setting world [] later = refl
run-append setting world (event ∷ before) later = run-append setting (stepped setting event world) before later

-- the world of a schedule is what its later events make of the world before them
pub later_world : (setting : Setting) (schedule : Schedule) (before later : List Event) → schedule.events ≡ before ++ later
    → world_of setting schedule ≡ run setting (world_before setting schedule before) later
later_world setting schedule before later splits =
    ap (λ (events : List Event). run setting (opening schedule.clients schedule.seed schedule.passes) events) splits
    ∙ run-append setting (opening schedule.clients schedule.seed schedule.passes) before later

-- the world before a further event
pub next_world : (setting : Setting) (schedule : Schedule) (before : List Event) (event : Event)
    → world_before setting schedule (before ++ event ∷ []) ≡ stepped setting event (world_before setting schedule before)
unfolding run
next_world setting schedule before event = run-append setting (opening schedule.clients schedule.seed schedule.passes) before (event ∷ [])

-- what holds before some events still does at the end
pub stays_to_end : (Q : Fact) → Stays Q → (setting : Setting) (schedule : Schedule) (before later : List Event) → schedule.events ≡ before ++ later
    → Q (world_before setting schedule before).history (world_before setting schedule before).outcomes
    → Q (world_of setting schedule).history (world_of setting schedule).outcomes
stays_to_end Q stays setting schedule before later splits is =
    subst (λ (world : World). Q world.history world.outcomes) (sym (later_world setting schedule before later splits))
    (run-stays Q stays setting (world_before setting schedule before) later is)
