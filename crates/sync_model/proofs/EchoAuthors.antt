-- A write that was there before some events was sent and stored before them: none of their deliveries says that it stored it.
use Rattle.std.proofs.Common.{◌≡◌, ℕ, ◌≤◌, ◌++◌, ◌⊎◌, inl, inr, List, [], ◌∷◌, length, slice_get, Some, refl, sym, ap, ◌∙◌, subst, arith, le_refl, le_trans}
use Rattle.std.proofs.lemmas.Option.{none-some}
use Rattle.sync_model.specs.declared.event.Event.{Event}
use Rattle.sync_model.specs.declared.event.EventOutcome.{EventOutcome}
use Rattle.sync_model.specs.declared.event.EventOutcome.TheVariants.{Void, Done, Edited, Requested, Delivered}
use Rattle.sync_model.specs.declared.event.Schedule.{Schedule}
use Rattle.sync_model.specs.declared.message.Content.{Content}
use Rattle.sync_model.specs.declared.message.Entry.{Entry}
use Rattle.sync_model.specs.declared.message.Request.{Request}
use Rattle.sync_model.specs.Settings.{Setting}
use Rattle.sync_model.specs.History.{write_at}
use Rattle.sync_model.specs.Servers.{reply_to}
use Rattle.sync_model.specs.Worlds.{World, opening, outcome_at, STORE_BIRTHDAY, is_invalid_entry, stepped, run, world_of}
use Rattle.sync_model.specs.Laws.{Stores, world_before, IsAuthoredBy}
use Rattle.sync_model.specs.Outcomes.{entries_in, entries_sent}
use Rattle.sync_model.specs.Deliveries.{IsStored, DeliveriesAreTrue}
use Rattle.sync_model.proofs.Longer.{request-later}
use Rattle.sync_model.proofs.TrueAcks.{served-keeps}
use Rattle.sync_model.proofs.StepOutcomes.{last_or_earlier, stepped_keeps, no_store}
use Rattle.sync_model.proofs.Deliveries.{opening-DeliveriesAreTrue, run-DeliveriesAreTrue}
use Rattle.sync_model.proofs.Authors.{reply_tells}
use Rattle.sync_model.proofs.FateStays.{later_world, stays_to_end}

-- a history and outcomes are later than others: what a delivery stored within that history it did among those outcomes
record IsLater (history : List (Entry Content)) (outcomes : List EventOutcome) (whole : List (Entry Content)) (all : List EventOutcome) : Type 0 where
  grown : length history ≤ length whole
  stored : (delivery request place version : ℕ) → Stores (outcome_at all delivery) request place version → version ≤ length history
      → Stores (outcome_at outcomes delivery) request place version

-- an event makes a later world
stepped_later : (history : List (Entry Content)) (outcomes : List EventOutcome) (setting : Setting) (event : Event) (world : World)
    → IsLater history outcomes world.history world.outcomes
    → IsLater history outcomes (stepped setting event world).history (stepped setting event world).outcomes
stepped_later history outcomes setting event world later = stepped_keeps (IsLater history outcomes) setting event world
    (λ outcome is. record {
      grown = later.grown;
      stored = λ delivery request place version stores within. by outcome delivery request place version
          (λ here. absurd (no_store setting event world outcome is request place version here)) within
          (last_or_earlier (λ made. Stores made request place version) outcome world.outcomes delivery stores);
    })
    (λ event client asked made. record {
      grown = le_trans later.grown (served-keeps (λ whole. length world.history ≤ length whole) (λ whole next le. omega (arith, le))
          is_invalid_entry STORE_BIRTHDAY world.history asked (le_refl _));
      stored = λ delivery request place version stores within.
          by (Delivered event (reply_to is_invalid_entry STORE_BIRTHDAY world.history asked)) delivery request place version
          (λ here. absurd (omega (arith, (reply_tells world.history asked).above place version here.1, within, later.grown))) within
          (last_or_earlier (λ made. Stores made request place version) (Delivered event (reply_to is_invalid_entry STORE_BIRTHDAY world.history asked))
          world.outcomes delivery stores);
    })
  where
    by : (outcome : EventOutcome) (delivery request place version : ℕ)
        → (Stores outcome request place version → Stores (outcome_at outcomes delivery) request place version) → version ≤ length history
        → Stores outcome request place version ⊎ Stores (outcome_at world.outcomes delivery) request place version
        → Stores (outcome_at outcomes delivery) request place version
    by outcome delivery request place version new within (inl here) = new here
    by outcome delivery request place version new within (inr earlier) = later.stored delivery request place version earlier within

run_later : (history : List (Entry Content)) (outcomes : List EventOutcome) (setting : Setting) (world : World) (events : List Event)
    → IsLater history outcomes world.history world.outcomes
    → IsLater history outcomes (run setting world events).history (run setting world events).outcomes
unfolding run
run_later history outcomes setting world [] later = later
run_later history outcomes setting world (event ∷ events) later =
    run_later history outcomes setting (stepped setting event world) events (stepped_later history outcomes setting event world later)

-- what is so of deliveries in the world before some events
before_deliveries : (setting : Setting) (schedule : Schedule) (before : List Event) → DeliveriesAreTrue (world_before setting schedule before)
before_deliveries setting schedule before =
    run-DeliveriesAreTrue setting (opening schedule.clients schedule.seed schedule.passes) before (opening-DeliveriesAreTrue schedule.clients schedule.seed schedule.passes)

-- an entry of a request of a client, which is the write of a version
pub record IsSentEntry (world : World) (client version : ℕ) : Type 0 where
  pub event : ℕ
  pub request : Request Content
  pub made : outcome_at world.outcomes event ≡ Requested client request
  pub place : ℕ
  pub entry : Entry Content
  pub is_sent : slice_get (entries_in request.call) place ≡ Some entry
  pub is_write : write_at world.history version ≡ Some entry

-- an outcome that sent an entry is a request
pub record HasSent (outcome : EventOutcome) (place : ℕ) (entry : Entry Content) : Type 0 where
  pub client : ℕ
  pub request : Request Content
  pub is : outcome ≡ Requested client request
  pub is_sent : slice_get (entries_in request.call) place ≡ Some entry

has_sent : (outcome : EventOutcome) (place : ℕ) (entry : Entry Content) → slice_get (entries_sent outcome) place ≡ Some entry
    → HasSent outcome place entry
has_sent (Requested client request) place entry is = record { client = client; request = request; is = refl; is_sent = is }
has_sent Void place entry is = absurd (none-some entry is)
has_sent Done place entry is = absurd (none-some entry is)
has_sent (Edited client kind number) place entry is = absurd (none-some entry is)
has_sent (Delivered request reply) place entry is = absurd (none-some entry is)

same_author : (first second : ℕ) (one other : Request Content) (outcome : EventOutcome) → outcome ≡ Requested first one → outcome ≡ Requested second other
    → first ≡ second
same_author first second one other outcome is also = cc (is, also)

-- a write of a client's that was there before some events was sent by it before them
pub sent_before : (setting : Setting) (schedule : Schedule) (before later : List Event) (client version : ℕ) → schedule.events ≡ before ++ later
    → IsAuthoredBy (world_of setting schedule) client version → version ≤ length (world_before setting schedule before).history
    → IsSentEntry (world_before setting schedule before) client version
sent_before setting schedule before later client version splits authored within =
    let whole : IsLater (world_before setting schedule before).history (world_before setting schedule before).outcomes
    (world_of setting schedule).history (world_of setting schedule).outcomes
    = subst (λ (world : World). IsLater (world_before setting schedule before).history (world_before setting schedule before).outcomes world.history world.outcomes)
    (sym (later_world setting schedule before later splits))
    (run_later (world_before setting schedule before).history (world_before setting schedule before).outcomes setting (world_before setting schedule before) later
    record { grown = le_refl _; stored = λ delivery request place version stores within. stores })
    in let stored : IsStored (world_before setting schedule before).history (world_before setting schedule before).outcomes authored.event authored.place version
    = (before_deliveries setting schedule before).says_true authored.author.0 authored.event authored.place version
    (whole.stored authored.author.0 authored.event authored.place version authored.author.1 within)
    in let sent : HasSent (outcome_at (world_before setting schedule before).outcomes authored.event) authored.place stored.entry
    = has_sent (outcome_at (world_before setting schedule before).outcomes authored.event) authored.place stored.entry stored.is_sent
    in let at_end : outcome_at (world_of setting schedule).outcomes authored.event ≡ Requested sent.client sent.request
    = stays_to_end (λ history outcomes. outcome_at outcomes authored.event ≡ Requested sent.client sent.request) record {
      longer = λ history outcomes next is. is;
      later = λ history outcomes outcome is. request-later outcomes outcome authored.event sent.client sent.request is;
    } setting schedule before later splits sent.is
    in let same : sent.client ≡ client
    = same_author sent.client client sent.request authored.request (outcome_at (world_of setting schedule).outcomes authored.event) at_end authored.made
    in record {
      event = authored.event;
      request = sent.request;
      made = sent.is ∙ ap (λ (author : ℕ). Requested author sent.request) same;
      place = authored.place;
      entry = stored.entry;
      is_sent = sent.is_sent;
      is_write = stored.is_write;
    }
