-- What a delivery says that it stored is in the history from then on; so each entry writes once.
use Rattle.std.proofs.Common.{◌≡◌, ℕ, ◌⊎◌, Bool, true, false, cond, List, [], ◌∷◌, slice_get, Some, sym, ap, ◌∙◌, subst, inl, inr}
use Rattle.std.proofs.lemmas.Option.{none-some, same_Some}
use Rattle.sync_model.specs.declared.event.Event.{Event}
use Rattle.sync_model.specs.declared.event.EventOutcome.{EventOutcome}
use Rattle.sync_model.specs.declared.event.EventOutcome.TheVariants.{Requested, Delivered}
use Rattle.sync_model.specs.declared.message.Answer.TheVariants.{Success}
use Rattle.sync_model.specs.declared.message.Call.{Call}
use Rattle.sync_model.specs.declared.message.Call.TheVariants.{Commit, Updates as AskUpdates}
use Rattle.sync_model.specs.declared.message.Content.{Content}
use Rattle.sync_model.specs.declared.message.Entry.{Entry}
use Rattle.sync_model.specs.declared.message.Request.{Request}
use Rattle.sync_model.specs.declared.message.Verdict.TheVariants.{Refused}
use Rattle.sync_model.specs.Settings.{Setting}
use Rattle.sync_model.specs.History.{write_at}
use Rattle.sync_model.specs.Servers.{is_foreign, verdict_on, history_after, reply_to, history_served, NOT_MY_BIRTHDAY}
use Rattle.sync_model.specs.Outcomes.{entries_in, entries_sent}
use Rattle.sync_model.specs.Laws.{answer_in, Stores, EveryEntryWritesOnce}
use Rattle.sync_model.specs.Deliveries.{IsStored, SaysTrue, DeliveriesAreTrue}
use Rattle.sync_model.specs.Worlds.{World, opening, outcome_at, STORE_BIRTHDAY, is_invalid_entry, stepped, run}
use Rattle.sync_model.proofs.Versions.{stepped-IsBased}
use Rattle.sync_model.proofs.StepOutcomes.{outcome-kept, last_or_earlier, stepped_keeps, no_store}
use Rattle.sync_model.proofs.Histories.{committed-kept, committed-stores, write_at-once}

-- a request stays in the log
entries_sent-kept : (outcome : EventOutcome) (outcomes : List EventOutcome) (event place : ℕ) (entry : Entry Content)
    → slice_get (entries_sent (outcome_at outcomes event)) place ≡ Some entry → slice_get (entries_sent (outcome_at (outcome ∷ outcomes) event)) place ≡ Some entry
entries_sent-kept outcome outcomes event place entry is =
    outcome-kept (λ (made : EventOutcome). slice_get (entries_sent made) place ≡ Some entry) outcome outcomes event (λ none. none-some entry none) is

-- what the history and the log had before an event they have after it
IsStored-kept : (old new : List (Entry Content)) (outcome : EventOutcome) (outcomes : List EventOutcome) (request place version : ℕ)
    → ((at : ℕ) (write : Entry Content) → write_at old at ≡ Some write → write_at new at ≡ Some write)
    → IsStored old outcomes request place version → IsStored new (outcome ∷ outcomes) request place version
IsStored-kept old new outcome outcomes request place version keeps stored = record {
  entry = stored.entry;
  is_sent = entries_sent-kept outcome outcomes request place stored.entry stored.is_sent;
  is_write = keeps version stored.entry stored.is_write;
}

-- a log whose last delivery says what is so says what is so, if it did before
SaysTrue-after : (old new : List (Entry Content)) (outcome : EventOutcome) (outcomes : List EventOutcome)
    → ((at : ℕ) (write : Entry Content) → write_at old at ≡ Some write → write_at new at ≡ Some write)
    → ((request place version : ℕ) → Stores outcome request place version → IsStored new (outcome ∷ outcomes) request place version)
    → SaysTrue old outcomes → SaysTrue new (outcome ∷ outcomes)
SaysTrue-after old new outcome outcomes keeps last before = λ delivery request place version stores.
    by delivery request place version (last_or_earlier (λ made. Stores made request place version) outcome outcomes delivery stores)
  where
    by : (delivery request place version : ℕ) → Stores outcome request place version ⊎ Stores (outcome_at outcomes delivery) request place version
        → IsStored new (outcome ∷ outcomes) request place version
    by delivery request place version (inl here) = last request place version here
    by delivery request place version (inr earlier) =
        IsStored-kept old new outcome outcomes request place version keeps (before delivery request place version earlier)

-- a request leaves each write at its version
after-kept : (history : List (Entry Content)) (call : Call Content) (version : ℕ) (write : Entry Content) → write_at history version ≡ Some write
    → write_at (history_after is_invalid_entry history call) version ≡ Some write
after-kept history (Commit entries) version write is = committed-kept is_invalid_entry history entries version write is
after-kept history (AskUpdates marks) version write is = is

served-kept_by : (history : List (Entry Content)) (call : Call Content) (foreign : Bool) (version : ℕ) (write : Entry Content)
    → write_at history version ≡ Some write → write_at (cond foreign history (history_after is_invalid_entry history call)) version ≡ Some write
served-kept_by history call true version write is = is
served-kept_by history call false version write is = after-kept history call version write is

served-kept : (history : List (Entry Content)) (request : Request Content) (version : ℕ) (write : Entry Content) → write_at history version ≡ Some write
    → write_at (history_served is_invalid_entry STORE_BIRTHDAY history request) version ≡ Some write
unfolding history_served
served-kept history request version write is =
    served-kept_by history request.call (is_foreign STORE_BIRTHDAY request.birthday) version write is

-- an entry of a call is a write of a history
abbrev IsPut : List (Entry Content) → Call Content → ℕ → ℕ → Type 0
IsPut history call place version =
    (entry : Entry Content) × (slice_get (entries_in call) place ≡ Some entry) × (write_at history version ≡ Some entry)

-- what an accepted request is told to be stored is stored
verdict-stores : (history : List (Entry Content)) (call : Call Content) (place version : ℕ)
    → answer_in (verdict_on is_invalid_entry history call) place ≡ Some (Success version)
    → IsPut (history_after is_invalid_entry history call) call place version
verdict-stores history (Commit entries) place version is = committed-stores is_invalid_entry history entries place version is
verdict-stores history (AskUpdates marks) place version is = absurd (none-some (Success version) is)

reply-stores_by : (history : List (Entry Content)) (call : Call Content) (foreign : Bool) (place version : ℕ)
    → answer_in (cond foreign (Refused NOT_MY_BIRTHDAY) (verdict_on is_invalid_entry history call)) place ≡ Some (Success version)
    → IsPut (cond foreign history (history_after is_invalid_entry history call)) call place version
reply-stores_by history call true place version is = absurd (none-some (Success version) is)
reply-stores_by history call false place version is = verdict-stores history call place version is

-- what a request is told to be stored is stored
reply-stores : (history : List (Entry Content)) (request : Request Content) (place version : ℕ)
    → answer_in (reply_to is_invalid_entry STORE_BIRTHDAY history request).verdict place ≡ Some (Success version)
    → IsPut (history_served is_invalid_entry STORE_BIRTHDAY history request) request.call place version
unfolding reply_to history_served
reply-stores history request place version is =
    reply-stores_by history request.call (is_foreign STORE_BIRTHDAY request.birthday) place version is

-- a delivery says of its request what is so
delivery-stores : (world : World) (event client : ℕ) (asked : Request Content) → outcome_at world.outcomes event ≡ Requested client asked
    → (request place version : ℕ)
    → Stores (Delivered event (reply_to is_invalid_entry STORE_BIRTHDAY world.history asked)) request place version
    → IsStored (history_served is_invalid_entry STORE_BIRTHDAY world.history asked)
    (Delivered event (reply_to is_invalid_entry STORE_BIRTHDAY world.history asked) ∷ world.outcomes) request place version
delivery-stores world event client asked made request place version stores =
    let put = reply-stores world.history asked place version stores.1
    in let sent : slice_get (entries_sent (outcome_at world.outcomes event)) place ≡ Some put.0
    = ap (λ (outcome : EventOutcome). slice_get (entries_sent outcome) place) made ∙ put.1
    in record {
      entry = put.0;
      is_sent = entries_sent-kept _ world.outcomes request place put.0
          (subst (λ (number : ℕ). slice_get (entries_sent (outcome_at world.outcomes number)) place ≡ Some put.0) stores.0 sent);
      is_write = put.2;
    }

stepped-SaysTrue : (setting : Setting) (event : Event) (world : World) → SaysTrue world.history world.outcomes
    → SaysTrue (stepped setting event world).history (stepped setting event world).outcomes
stepped-SaysTrue setting event world before = stepped_keeps SaysTrue setting event world
    (λ outcome is. SaysTrue-after world.history world.history outcome world.outcomes (λ at write found. found)
    (λ request place version stores. absurd (no_store setting event world outcome is request place version stores)) before)
    (λ request client asked made. SaysTrue-after world.history (history_served is_invalid_entry STORE_BIRTHDAY world.history asked)
    (Delivered request (reply_to is_invalid_entry STORE_BIRTHDAY world.history asked)) world.outcomes
    (served-kept world.history asked) (delivery-stores world request client asked made) before)

-- an event keeps what is so of the deliveries
pub stepped-DeliveriesAreTrue : (setting : Setting) (event : Event) (world : World) → DeliveriesAreTrue world
    → DeliveriesAreTrue (stepped setting event world)
stepped-DeliveriesAreTrue setting event world before = record {
  based = stepped-IsBased setting event world before.based;
  says_true = stepped-SaysTrue setting event world before.says_true;
}

pub run-DeliveriesAreTrue : (setting : Setting) (world : World) (events : List Event) → DeliveriesAreTrue world → DeliveriesAreTrue (run setting world events)
unfolding run
run-DeliveriesAreTrue setting world [] before = before
run-DeliveriesAreTrue setting world (event ∷ events) before =
    run-DeliveriesAreTrue setting (stepped setting event world) events (stepped-DeliveriesAreTrue setting event world before)

-- before any event nothing was delivered
pub opening-DeliveriesAreTrue : (clients seed : ℕ) (passes : List (List ℕ)) → DeliveriesAreTrue (opening clients seed passes)
unfolding outcome_at
opening-DeliveriesAreTrue clients seed passes = record {
  based = tt;
  says_true = λ delivery request place version stores. absurd stores;
}

-- two writes of one entry are one
one_write : (world : World) → DeliveriesAreTrue world → (request place first second : ℕ)
    → IsStored world.history world.outcomes request place first → IsStored world.history world.outcomes request place second → first ≡ second
one_write world true_of request place first second one other =
    let same = same_Some one.entry other.entry (sym one.is_sent ∙ other.is_sent)
    in write_at-once world.history true_of.based other.entry first second
    (subst (λ (entry : Entry Content). write_at world.history first ≡ Some entry) same one.is_write) other.is_write

-- each entry of each request is the author of at most one write
pub world_of-EveryEntryWritesOnce : EveryEntryWritesOnce
world_of-EveryEntryWritesOnce setting schedule request place first second one other =
    let world = run setting (opening schedule.clients schedule.seed schedule.passes) schedule.events
    in let true_of = run-DeliveriesAreTrue setting (opening schedule.clients schedule.seed schedule.passes) schedule.events
    (opening-DeliveriesAreTrue schedule.clients schedule.seed schedule.passes)
    in one_write world true_of request place first second
    (true_of.says_true one.0 request place first one.1) (true_of.says_true other.0 request place second other.1)
