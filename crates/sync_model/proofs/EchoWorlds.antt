-- Each event of each schedule keeps what is so of the offered pairs, of what is held and of what was ever sent.
use Rattle.std.proofs.Common.{◌≡◌, ℕ, zero, suc, ◌+◌, ◌-◌, ◌≤◌, ◌⊎◌, ◌++◌, Bool, true, false, cond, List, [], ◌∷◌, length, slice_index_or, Option, Some, None, refl, sym, ap, ◌∙◌, subst, eqb, arith, inl, inr}
use Rattle.std.specs.List.{AllByRecursion}
use Rattle.std.proofs.lemmas.Bool.{cases_eq}
use Rattle.std.proofs.lemmas.List.{append_assoc, append-nil}
use Rattle.client_tags.specs.declared.Kind.{Kind}
use Rattle.client_tags.specs.declared.Kind.TheVariants.{Nigori, Preference, Password}
use Rattle.sync_model.specs.declared.event.Event.{Event}
use Rattle.sync_model.specs.declared.event.Event.TheVariants.{Edit, Cut, Turn, Gather, Post, Ask, Offer, Lose, Crash, Deliver, Answer, SetPass, GivePass}
use Rattle.sync_model.specs.declared.event.EventOutcome.{EventOutcome}
use Rattle.sync_model.specs.declared.event.EventOutcome.TheVariants.{Void, Done, Edited, Requested, Delivered}
use Rattle.sync_model.specs.declared.event.Schedule.{Schedule}
use Rattle.sync_model.specs.declared.message.Content.{Content}
use Rattle.sync_model.specs.declared.message.Offer.{Offer as KeyOffer}
use Rattle.sync_model.specs.declared.message.Reply.{Reply}
use Rattle.sync_model.specs.declared.message.Request.{Request}
use Rattle.sync_model.specs.Settings.{Setting}
use Rattle.sync_model.specs.Servers.{reply_to}
use Rattle.sync_model.specs.Clients.{Client, Effect, new_client, side_of, plain_effect}
use Rattle.sync_model.specs.Sending.{asked_offers, gathering, is_gather_void, gather_effect, ask_effect, offer_effect}
use Rattle.sync_model.specs.Receiving.{answer_effect}
use Rattle.sync_model.specs.Report.{is_void}
use Rattle.sync_model.specs.Outcomes.{entries_in}
use Rattle.sync_model.specs.Worlds.{World, opening, client_at, with_client_at, outcome_at, affected, acted, STORE_BIRTHDAY, is_invalid_entry, delivered, is_awaited, replied, answered, pass_at, next_event, stepped, run}
use Rattle.sync_model.specs.Laws.{world_before, last_outcome}
use Rattle.sync_model.specs.FateFacts.{Saying, IsSaidOnTheWay, NumberFacts, side_at}
use Rattle.sync_model.specs.EchoFacts.{AnyIs, IsOfferOver, WasOffered, Offerings, IsEntryKept, AreStatesKept, IsClientKept, AreClientsKept, EveryOfferIsKept}
use Rattle.sync_model.proofs.Longer.{all_then}
use Rattle.sync_model.proofs.KnownWorlds.{opening_client}
use Rattle.sync_model.proofs.FateWorlds.{not_by_none}
use Rattle.sync_model.proofs.FateSettlements.{put_same, put_other, before, last_is}
use Rattle.sync_model.proofs.FateNumbers.{world_of-numbers}
use Rattle.sync_model.proofs.FateLaw.{one_more}
use Rattle.sync_model.proofs.FateStays.{next_world}
use Rattle.sync_model.proofs.EchoKeys.{new_state-kept}
use Rattle.sync_model.proofs.EchoStates.{WasMade}
use Rattle.sync_model.proofs.EchoClients.{IsHolding, IsEffectKept, NoneOffered, IsKept, sent_move, none_kept, change_effect-offers, cut_effect-offers, crash_effect-offers, set_pass_effect-offers, give_pass_effect-offers, post_effect-offers, turn_effect-offers, ask_effect-offers, offer_effect-offers, lose_effect-offers, answer_effect-offers, gather_effect-kept}

-- a request is the last outcome, or an earlier one
request_cases : (outcomes : List EventOutcome) (outcome : EventOutcome) (event number : ℕ) (request : Request Content)
    → outcome_at (outcome ∷ outcomes) event ≡ Requested number request
    → (outcome ≡ Requested number request) ⊎ (outcome_at outcomes event ≡ Requested number request)
unfolding outcome_at
request_cases outcomes outcome event number request = by (eqb event (length outcomes + 1))
  where
    by : (last : Bool) → cond last outcome (outcome_at outcomes event) ≡ Requested number request
        → (outcome ≡ Requested number request) ⊎ (outcome_at outcomes event ≡ Requested number request)
    by true is = inl is
    by false is = inr is

-- an outcome that is no request of a client
other_kept : (Was : Offerings) (number : ℕ) (outcomes : List EventOutcome) (outcome : EventOutcome) (client : Client)
    → ((request : Request Content) → outcome ≡ Requested number request → ⊥)
    → IsClientKept Was number outcomes client → IsClientKept Was number (outcome ∷ outcomes) client
other_kept Was number outcomes outcome client differs kept = record {
  sides = kept.sides;
  held = kept.held;
  sent = λ event request made. by event request (request_cases outcomes outcome event number request made);
}
  where
    by : (event : ℕ) (request : Request Content) → ((outcome ≡ Requested number request) ⊎ (outcome_at outcomes event ≡ Requested number request))
        → AllByRecursion (IsEntryKept Was client) (entries_in request.call)
    by event request (inl last) = absurd (differs request last)
    by event request (inr earlier) = kept.sent event request earlier

-- what an effect leaves of the client that acts
own_kept : (Was : Offerings) (number : ℕ) (outcomes : List EventOutcome) (client : Client) (effect : Effect) → IsEffectKept Was number client effect
    → IsClientKept Was number outcomes client → IsClientKept Was number (effect.outcome ∷ outcomes) effect.client
own_kept Was number outcomes client effect made kept = record {
  sides = made.sides;
  held = made.held;
  sent = λ event request is. by event request (request_cases outcomes effect.outcome event number request is);
}
  where
    by : (event : ℕ) (request : Request Content) → ((effect.outcome ≡ Requested number request) ⊎ (outcome_at outcomes event ≡ Requested number request))
        → AllByRecursion (IsEntryKept Was effect.client) (entries_in request.call)
    by event request (inl last) = (made.sent number request last).1
    by event request (inr earlier) = sent_move Was client number effect made (entries_in request.call) (kept.sent event request earlier)

-- a void event
voided_kept : (Was : ℕ → Offerings) (world : World) → AreClientsKept Was world → AreClientsKept Was (record world { outcomes = Void ∷ world.outcomes })
voided_kept Was world kept place =
    other_kept (Was (suc place)) (suc place) world.outcomes Void (client_at world.clients (suc place)) (λ request is. cc is) (kept place)

-- an event of a client
affected_kept : (Was : ℕ → Offerings) (world : World) (acting : ℕ) (effect : Option Effect)
    → IsKept (Was (suc acting)) (suc acting) (client_at world.clients (suc acting)) effect
    → AreClientsKept Was world → AreClientsKept Was (affected world (suc acting) effect)
unfolding affected
affected_kept Was world acting None made kept place = voided_kept Was world kept place
affected_kept Was world acting (Some effect) made kept place = by (cases_eq acting place)
  where
    own : acting ≡ place → client_at (with_client_at world.clients (suc acting - 1) effect.client) (suc place) ≡ effect.client
    own same = subst (λ (at : ℕ). slice_index_or (with_client_at world.clients at effect.client) (suc place - 1) new_client ≡ effect.client)
        (ap (λ (number : ℕ). suc number - 1) (sym same)) (put_same world.clients (suc place - 1) effect.client)

    others : (acting ≡ place → ⊥) → client_at (with_client_at world.clients (suc acting - 1) effect.client) (suc place) ≡ client_at world.clients (suc place)
    others differs = put_other world.clients (suc acting - 1) (suc place - 1) effect.client (λ same. differs (sym (before acting) ∙ same ∙ before place))

    author : (request : Request Content) → effect.outcome ≡ Requested (suc place) request → acting ≡ place
    author request is =
        let same : suc place ≡ suc acting = (made.sent (suc place) request is).0 in omega (arith, same)

    by : (acting ≡ place) ⊎ (acting ≡ place → ⊥) → IsClientKept (Was (suc place)) (suc place) (effect.outcome ∷ world.outcomes)
        (client_at (with_client_at world.clients (suc acting - 1) effect.client) (suc place))
    by (inl same) =
        subst (λ (client : Client). IsClientKept (Was (suc place)) (suc place) (effect.outcome ∷ world.outcomes) client) (sym (own same))
        (subst (λ (at : ℕ). IsClientKept (Was (suc at)) (suc at) (effect.outcome ∷ world.outcomes) effect.client) same
        (own_kept (Was (suc acting)) (suc acting) world.outcomes (client_at world.clients (suc acting)) effect made (kept acting)))
    by (inr differs) =
        subst (λ (client : Client). IsClientKept (Was (suc place)) (suc place) (effect.outcome ∷ world.outcomes) client) (sym (others differs))
        (other_kept (Was (suc place)) (suc place) world.outcomes effect.outcome (client_at world.clients (suc place))
        (λ request is. differs (author request is)) (kept place))

acted_kept : (Was : ℕ → Offerings) (world : World) (number : ℕ) (acts : Client → Option Effect)
    → ((place : ℕ) → number ≡ suc place → IsHolding (Was (suc place)) (client_at world.clients (suc place))
    → IsKept (Was (suc place)) (suc place) (client_at world.clients (suc place)) (acts (client_at world.clients (suc place))))
    → AreClientsKept Was world → AreClientsKept Was (acted world number acts)
acted_kept Was world zero acts makes kept = voided_kept Was world kept
acted_kept Was world (suc place) acts makes kept =
    affected_kept Was world place (acts (client_at world.clients (suc place)))
    (makes place refl record { sides = (kept place).sides; held = (kept place).held }) kept

-- a delivery
delivered_kept : (Was : ℕ → Offerings) (world : World) (event : ℕ) (outcome : EventOutcome) → AreClientsKept Was world
    → AreClientsKept Was (delivered world event outcome)
delivered_kept Was world event (Requested client request) kept place =
    other_kept (Was (suc place)) (suc place) world.outcomes (Delivered event (reply_to is_invalid_entry STORE_BIRTHDAY world.history request))
    (client_at world.clients (suc place)) (λ request is. cc is) (kept place)
delivered_kept Was world event Void kept place = voided_kept Was world kept place
delivered_kept Was world event Done kept place = voided_kept Was world kept place
delivered_kept Was world event (Edited client kind number) kept place = voided_kept Was world kept place
delivered_kept Was world event (Delivered request reply) kept place = voided_kept Was world kept place

-- a reply
replied_by : (Says : ℕ → Saying) (Was : ℕ → Offerings) (world : World) (event number : ℕ) (reply : Reply Content) (request : Request Content) (awaited : Bool)
    → is_awaited (client_at world.clients number).outstanding event ≡ awaited → outcome_at world.outcomes event ≡ Requested number request
    → IsSaidOnTheWay Says world → AreClientsKept Was world
    → AreClientsKept Was (cond awaited (affected world number (answer_effect request reply (client_at world.clients number))) (record world { outcomes = Void ∷ world.outcomes }))
replied_by Says Was world event number reply request false awaited is said kept = voided_kept Was world kept
replied_by Says Was world event zero reply request true awaited is said kept = absurd (not_by_none Says world event request said awaited is)
replied_by Says Was world event (suc place) reply request true awaited is said kept =
    affected_kept Was world place (answer_effect request reply (client_at world.clients (suc place)))
    (none_kept (Was (suc place)) (suc place) (client_at world.clients (suc place)) (answer_effect request reply (client_at world.clients (suc place)))
    record { sides = (kept place).sides; held = (kept place).held }
    (answer_effect-offers (Was (suc place)) (suc place) request reply (client_at world.clients (suc place)))) kept

replied_kept : (Says : ℕ → Saying) (Was : ℕ → Offerings) (world : World) (event : ℕ) (reply : Reply Content) (outcome : EventOutcome)
    → outcome_at world.outcomes event ≡ outcome → IsSaidOnTheWay Says world → AreClientsKept Was world
    → AreClientsKept Was (replied world event reply outcome)
replied_kept Says Was world event reply (Requested client request) is said kept =
    replied_by Says Was world event client reply request (is_awaited (client_at world.clients client).outstanding event) refl is said kept
replied_kept Says Was world event reply Void is said kept = voided_kept Was world kept
replied_kept Says Was world event reply Done is said kept = voided_kept Was world kept
replied_kept Says Was world event reply (Edited client kind number) is said kept = voided_kept Was world kept
replied_kept Says Was world event reply (Delivered other others) is said kept = voided_kept Was world kept

answered_kept : (Says : ℕ → Saying) (Was : ℕ → Offerings) (world : World) (outcome : EventOutcome) → IsSaidOnTheWay Says world
    → AreClientsKept Was world → AreClientsKept Was (answered world outcome)
answered_kept Says Was world (Delivered request reply) said kept =
    replied_kept Says Was world request reply (outcome_at world.outcomes request) refl said kept
answered_kept Says Was world Void said kept = voided_kept Was world kept
answered_kept Says Was world Done said kept = voided_kept Was world kept
answered_kept Says Was world (Edited client kind number) said kept = voided_kept Was world kept
answered_kept Says Was world (Requested client request) said kept = voided_kept Was world kept

-- what a gather asks for was offered
abbrev AreAskedMade : (ℕ → Offerings) → Setting → Event → World → Type 0
AreAskedMade Was setting event world = (place : ℕ) (kind : Kind) → event ≡ Gather (suc place) kind
    → is_gather_void kind (client_at world.clients (suc place)) ≡ false → (side_at world (suc place) kind).pending ≡ None
    → AllByRecursion (WasMade (Was (suc place)) kind) (asked_offers setting kind (client_at world.clients (suc place)))

-- an event keeps what is so of all clients
stepped_kept : (Was : ℕ → Offerings) (setting : Setting) (event : Event) (world : World) → NumberFacts world → AreAskedMade Was setting event world
    → AreClientsKept Was world → AreClientsKept Was (stepped setting event world)
unfolding stepped
stepped_kept Was setting (Edit number edit) world facts asked = acted_kept Was world number _ (λ place is kept.
    none_kept (Was (suc place)) (suc place) (client_at world.clients (suc place)) _ kept
    (change_effect-offers (Was (suc place)) (suc place) number setting edit (client_at world.clients (suc place)) (facts.keys place)))
stepped_kept Was setting (Cut number cut edit) world facts asked = acted_kept Was world number _ (λ place is kept.
    none_kept (Was (suc place)) (suc place) (client_at world.clients (suc place)) _ kept
    (cut_effect-offers (Was (suc place)) (suc place) number setting cut edit (client_at world.clients (suc place)) (facts.keys place)))
stepped_kept Was setting (Turn number kind) world facts asked = acted_kept Was world number _ (λ place is kept.
    none_kept (Was (suc place)) (suc place) (client_at world.clients (suc place)) _ kept
    (turn_effect-offers (Was (suc place)) (suc place) setting kind (client_at world.clients (suc place))))
stepped_kept Was setting (Gather number kind) world facts asked = acted_kept Was world number _ (λ place is kept.
    gather_effect-kept (Was (suc place)) (suc place) number setting kind (client_at world.clients (suc place)) (facts.keys place)
    (asked place kind (ap (λ (client : ℕ). Gather client kind) is)) kept)
stepped_kept Was setting (Post number kind) world facts asked = acted_kept Was world number _ (λ place is kept.
    none_kept (Was (suc place)) (suc place) (client_at world.clients (suc place)) _ kept
    (post_effect-offers (Was (suc place)) (suc place) setting kind (client_at world.clients (suc place))))
stepped_kept Was setting (Ask number) world facts asked = acted_kept Was world number _ (λ place is kept.
    none_kept (Was (suc place)) (suc place) (client_at world.clients (suc place)) _ kept
    (subst (λ (client : ℕ). NoneOffered (Was (suc place)) (suc place) (client_at world.clients (suc place)) (ask_effect client (next_event world) (client_at world.clients (suc place)))) (sym is)
    (ask_effect-offers (Was (suc place)) (suc place) (next_event world) (client_at world.clients (suc place)))))
stepped_kept Was setting (Offer number) world facts asked = acted_kept Was world number _ (λ place is kept.
    none_kept (Was (suc place)) (suc place) (client_at world.clients (suc place)) _ kept
    (subst (λ (client : ℕ). NoneOffered (Was (suc place)) (suc place) (client_at world.clients (suc place)) (offer_effect client (next_event world) (client_at world.clients (suc place)))) (sym is)
    (offer_effect-offers (Was (suc place)) (suc place) (next_event world) (client_at world.clients (suc place)))))
stepped_kept Was setting (Lose number) world facts asked = acted_kept Was world number _ (λ place is kept.
    none_kept (Was (suc place)) (suc place) (client_at world.clients (suc place)) _ kept
    (lose_effect-offers (Was (suc place)) (suc place) (client_at world.clients (suc place))))
stepped_kept Was setting (Crash number) world facts asked = acted_kept Was world number _ (λ place is kept.
    none_kept (Was (suc place)) (suc place) (client_at world.clients (suc place)) _ kept
    (crash_effect-offers (Was (suc place)) (suc place) (client_at world.clients (suc place))))
stepped_kept Was setting (Deliver event) world facts asked = delivered_kept Was world event (outcome_at world.outcomes event)
stepped_kept Was setting (Answer event) world facts asked =
    answered_kept (λ number kind edit value. edit ≤ (side_at world number kind).last_edit) Was world (outcome_at world.outcomes event) facts.sent
stepped_kept Was setting (SetPass number pass) world facts asked = acted_kept Was world number _ (λ place is kept.
    none_kept (Was (suc place)) (suc place) (client_at world.clients (suc place)) _ kept
    (set_pass_effect-offers (Was (suc place)) (suc place) number setting (pass_at world.passes pass) (client_at world.clients (suc place)) (facts.keys place)))
stepped_kept Was setting (GivePass number pass) world facts asked = acted_kept Was world number _ (λ place is kept.
    none_kept (Was (suc place)) (suc place) (client_at world.clients (suc place)) _ kept
    (give_pass_effect-offers (Was (suc place)) (suc place) setting (pass_at world.passes pass) (client_at world.clients (suc place))))

-- each of some things is one of them
all_among : {X : Type 0} (Like : X → X → Type 0) → ((x : X) → Like x x) → (xs : List X) → AllByRecursion (λ x. AnyIs (Like x) xs) xs
all_among Like alike [] = tt
all_among {X} Like alike (x ∷ xs) = (
  inl (alike x),
  all_then {P = λ (y : X). AnyIs (Like y) xs} {Q = λ (y : X). AnyIs (Like y) (x ∷ xs)} (λ y any. inr any) xs (all_among Like alike xs),
)

-- a gather that is not void is done
gather_done : (setting : Setting) (world : World) (place : ℕ) (kind : Kind) → is_gather_void kind (client_at world.clients (suc place)) ≡ false
    → is_void (last_outcome (stepped setting (Gather (suc place) kind) world)) ≡ false
unfolding stepped gather_effect affected
gather_done setting world place kind is =
    ap (λ (void : Bool). is_void (last_outcome (affected world (suc place) (cond void None
    (Some (plain_effect (gathering setting (suc place) kind (client_at world.clients (suc place)) (side_at world (suc place) kind).pending) Done)))))) is
    ∙ ap is_void (last_is world.outcomes Done)

-- what a gather of a schedule asks for was offered
asked_were : (setting : Setting) (schedule : Schedule) (before later : List Event) (event : Event) → schedule.events ≡ before ++ event ∷ later
    → AreAskedMade (WasOffered setting schedule) setting event (world_before setting schedule before)
asked_were setting schedule before later event splits place kind is done waits =
    all_then {P = λ offer. AnyIs (IsOfferOver offer.hash offer.known offer.number) offers} {Q = WasMade (WasOffered setting schedule (suc place)) kind}
    (λ offer any. record {
      before = before;
      later = later;
      splits = splits ∙ ap (λ (found : Event). before ++ found ∷ later) is;
      done = gather_done setting (world_before setting schedule before) place kind done;
      none_waits = waits;
      asked = any;
    }) offers
    (all_among (λ (offer : KeyOffer). IsOfferOver offer.hash offer.known offer.number) (λ offer. record { of_key = refl; over = refl; numbered = refl }) offers)
  where
    offers : List KeyOffer
    offers = asked_offers setting kind (client_at (world_before setting schedule before).clients (suc place))

-- before any event nothing was offered
opening_kept : (Was : ℕ → Offerings) (clients seed : ℕ) (passes : List (List ℕ)) → AreClientsKept Was (opening clients seed passes)
unfolding outcome_at
opening_kept Was clients seed passes place =
    opening_client (λ client. IsClientKept (Was (suc place)) (suc place) [] client) new clients (suc place - 1)
  where
    new : IsClientKept (Was (suc place)) (suc place) [] new_client
    new = record { sides = sides; held = tt; sent = λ event request made. absurd (cc made) }
      where
        sides : (kind : Kind) → AreStatesKept (Was (suc place)) kind (side_of new_client kind).states
        sides Nigori = record { in_order = tt; pairs = λ hash. new_state-kept _ }
        sides Preference = record { in_order = tt; pairs = λ hash. new_state-kept _ }
        sides Password = record { in_order = tt; pairs = λ hash. new_state-kept _ }

-- further events of a schedule keep it
further_kept : (setting : Setting) (schedule : Schedule) (events before later : List Event) → schedule.events ≡ (before ++ events) ++ later
    → AreClientsKept (WasOffered setting schedule) (world_before setting schedule before)
    → AreClientsKept (WasOffered setting schedule) (world_before setting schedule (before ++ events))
further_kept setting schedule [] before later splits kept =
    subst (λ (first : List Event). AreClientsKept (WasOffered setting schedule) (world_before setting schedule first)) (sym (append-nil before)) kept
further_kept setting schedule (event ∷ events) before later splits kept =
    subst (λ (first : List Event). AreClientsKept (WasOffered setting schedule) (world_before setting schedule first)) (sym (one_more before events event))
    (further_kept setting schedule events (before ++ event ∷ []) later
    (splits ∙ ap (λ (first : List Event). first ++ later) (one_more before events event))
    (subst (λ (world : World). AreClientsKept (WasOffered setting schedule) world) (sym (next_world setting schedule before event))
    (stepped_kept (WasOffered setting schedule) setting event (world_before setting schedule before)
    (world_of-numbers setting (record schedule { events = before }))
    (asked_were setting schedule before (events ++ later) event (splits ∙ append_assoc before (event ∷ events) later)) kept)))

-- what is so before each event of a schedule
pub before_kept : (setting : Setting) (schedule : Schedule) (before later : List Event) → schedule.events ≡ before ++ later
    → AreClientsKept (WasOffered setting schedule) (world_before setting schedule before)
unfolding run
before_kept setting schedule before later splits =
    further_kept setting schedule before [] later splits (opening_kept (WasOffered setting schedule) schedule.clients schedule.seed schedule.passes)

pub world_of-EveryOfferIsKept : EveryOfferIsKept
world_of-EveryOfferIsKept setting schedule = before_kept setting schedule schedule.events [] (sym (append-nil schedule.events))
