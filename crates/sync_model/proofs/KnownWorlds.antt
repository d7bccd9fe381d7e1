-- What holds of a world still does after each event, and so of the world of each schedule.
use Rattle.std.proofs.Common.{◌≡◌, ℕ, zero, suc, ◌+◌, ◌-◌, ◌≤◌, Bool, true, false, cond, List, [], ◌∷◌, length, replicate, slice_index_or, Option, Some, None, refl, sym, ap, subst, ◌∙◌, arith, IfSome}
use Rattle.std.proofs.lemmas.Bool.{eqb-true, false≢true}
use Rattle.client_tags.specs.declared.Kind.{Kind}
use Rattle.sync_model.specs.declared.event.Event.{Event}
use Rattle.sync_model.specs.declared.event.Event.TheVariants.{Edit, Cut, Turn, Gather, Post, Ask, Offer, Lose, Crash, Deliver, Answer, SetPass, GivePass}
use Rattle.sync_model.specs.declared.event.EventOutcome.{EventOutcome}
use Rattle.sync_model.specs.declared.event.EventOutcome.TheVariants.{Void, Done, Edited, Requested, Delivered}
use Rattle.sync_model.specs.declared.event.Schedule.{Schedule}
use Rattle.sync_model.specs.declared.message.Call.{Call}
use Rattle.sync_model.specs.declared.message.Call.TheVariants.{Commit, Updates as AskUpdates}
use Rattle.sync_model.specs.declared.message.Content.{Content}
use Rattle.sync_model.specs.declared.message.Entry.{Entry}
use Rattle.sync_model.specs.declared.message.Reply.{Reply}
use Rattle.sync_model.specs.declared.message.Request.{Request}
use Rattle.sync_model.specs.declared.message.Verdict.TheVariants.{Refused}
use Rattle.sync_model.specs.Settings.{Setting}
use Rattle.sync_model.specs.History.{committed, answers_to}
use Rattle.sync_model.specs.Servers.{mark_of, verdict_on, history_after, is_foreign, NOT_MY_BIRTHDAY, reply_to, history_served}
use Rattle.sync_model.specs.Clients.{Client, Effect, new_client, side_of}
use Rattle.sync_model.specs.Receiving.{acks_of, letter_in, answer_effect}
use Rattle.sync_model.specs.Worlds.{World, opening, client_at, with_client_at, outcome_at, affected, acted, STORE_BIRTHDAY, is_invalid_entry, delivered, is_awaited, replied, answered, pass_at, stepped, run, world_of}
use Rattle.sync_model.specs.Facts.{IsTrueTask, asked_mark, IsTrueReply, IsAnswered, IsTrueOutcome, IsAwaiting, ClientFacts, WorldFacts}
use Rattle.sync_model.proofs.Longer.{ClientFacts-longer, IsTrueOutcome-longer, request-later, outcomes-later, ClientFacts-later}
use Rattle.sync_model.proofs.KnownClients.{new_client-ClientFacts, EffectFacts}
use Rattle.sync_model.proofs.KnownChanges.{change_effect-facts, cut_effect-facts, crash_effect-facts, set_pass_effect-facts, give_pass_effect-facts}
use Rattle.sync_model.proofs.KnownSending.{gather_effect-facts, ask_effect-facts, offer_effect-facts, lose_effect-facts}
use Rattle.sync_model.proofs.KnownReceiving.{post_effect-facts, turn_effect-facts, answer_effect-facts}
use Rattle.sync_model.proofs.TrueAcks.{served-keeps, acks_true, acks_letter}
use Rattle.sync_model.proofs.WholeBatches.{batch_letter-true}

-- the reply to a request is true in the history after it
accepted_true : (is_invalid : Entry Content → Bool) (history : List (Entry Content)) (kind : Kind) (call : Call Content)
    → asked_mark kind call ≤ length history
    → IfSome (letter_in kind call (verdict_on is_invalid history call)) (IsTrueTask (history_after is_invalid history call) kind (asked_mark kind call))
accepted_true is_invalid history kind (Commit entries) within =
    acks_letter (committed is_invalid history entries) kind 0 (acks_of kind entries (answers_to is_invalid history entries)) (acks_true is_invalid history kind entries)
accepted_true is_invalid history kind (AskUpdates marks) within = batch_letter-true history marks kind (mark_of kind marks) refl within

refused_true : (history : List (Entry Content)) (kind : Kind) (call : Call Content) (code : ℕ)
    → IfSome (letter_in kind call (Refused code)) (IsTrueTask history kind (asked_mark kind call))
refused_true history kind (Commit entries) code = tt
refused_true history kind (AskUpdates marks) code = tt

reply_by : (is_invalid : Entry Content → Bool) (history : List (Entry Content)) (kind : Kind) (call : Call Content) (foreign : Bool)
    → asked_mark kind call ≤ length history
    → IfSome (letter_in kind call (cond foreign (Refused NOT_MY_BIRTHDAY) (verdict_on is_invalid history call)))
    (IsTrueTask (cond foreign history (history_after is_invalid history call)) kind (asked_mark kind call))
reply_by is_invalid history kind call true within = refused_true history kind call NOT_MY_BIRTHDAY
reply_by is_invalid history kind call false within = accepted_true is_invalid history kind call within

reply_to-true : (is_invalid : Entry Content → Bool) (birthday : List ℕ) (history : List (Entry Content)) (request : Request Content)
    → ((kind : Kind) → asked_mark kind request.call ≤ length history)
    → IsTrueReply (history_served is_invalid birthday history request) request.call (reply_to is_invalid birthday history request)
unfolding history_served reply_to
reply_to-true is_invalid birthday history request within kind =
    reply_by is_invalid history kind request.call (is_foreign birthday request.birthday) (within kind)

-- what holds of each client still does where one of them is another one of which it holds
set_client_keeps : (P : Client → Type 0) (clients : List Client) (place : ℕ) (client : Client) → P new_client → P client
    → ((other : ℕ) → P (slice_index_or clients other new_client)) → (other : ℕ) → P (slice_index_or (with_client_at clients place client) other new_client)
set_client_keeps P [] zero client new here all zero = here
set_client_keeps P [] zero client new here all (suc other) = new
set_client_keeps P [] (suc place) client new here all zero = new
set_client_keeps P [] (suc place) client new here all (suc other) = set_client_keeps P [] place client new here (λ _. new) other
set_client_keeps P (first ∷ clients) zero client new here all zero = here
set_client_keeps P (first ∷ clients) zero client new here all (suc other) = all (suc other)
set_client_keeps P (first ∷ clients) (suc place) client new here all zero = all zero
set_client_keeps P (first ∷ clients) (suc place) client new here all (suc other) =
    set_client_keeps P clients place client new here (λ next. all (suc next)) other

-- a void event
voided-facts : (world : World) → WorldFacts world → WorldFacts (record world { outcomes = Void ∷ world.outcomes })
voided-facts world facts = record {
  outcomes = outcomes-later world.history world.outcomes Void tt facts.outcomes;
  clients = λ number. ClientFacts-later world.history world.outcomes Void (client_at world.clients number) (facts.clients number);
}

-- an event of a client
affected-facts : (world : World) (number : ℕ) (effect : Option Effect) → WorldFacts world
    → EffectFacts world.history world.outcomes effect → WorldFacts (affected world number effect)
unfolding affected
affected-facts world number None facts made = voided-facts world facts
affected-facts world number (Some effect) facts made = record {
  outcomes = outcomes-later world.history world.outcomes effect.outcome made.1 facts.outcomes;
  clients = λ other. set_client_keeps (λ client. ClientFacts world.history (effect.outcome ∷ world.outcomes) client)
      world.clients (number - 1) effect.client (new_client-ClientFacts world.history (effect.outcome ∷ world.outcomes)) made.0 at_place (other - 1);
}
  where
    at_place : (place : ℕ) → ClientFacts world.history (effect.outcome ∷ world.outcomes) (slice_index_or world.clients place new_client)
    at_place place =
        let same : place + 1 - 1 ≡ place = omega arith in
        ClientFacts-later world.history world.outcomes effect.outcome (slice_index_or world.clients place new_client)
        (subst (λ (at : ℕ). ClientFacts world.history world.outcomes (slice_index_or world.clients at new_client)) same (facts.clients (place + 1)))

acted-facts : (world : World) (number : ℕ) (event : Client → Option Effect)
    → ((client : Client) → ClientFacts world.history world.outcomes client → EffectFacts world.history world.outcomes (event client))
    → WorldFacts world → WorldFacts (acted world number event)
acted-facts world zero event makes facts = voided-facts world facts
acted-facts world (suc place) event makes facts =
    affected-facts world (suc place) (event (client_at world.clients (suc place))) facts
    (makes (client_at world.clients (suc place)) (facts.clients (suc place)))

-- a delivery
delivered-facts : (world : World) (event : ℕ) (outcome : EventOutcome) → outcome_at world.outcomes event ≡ outcome
    → WorldFacts world → WorldFacts (delivered world event outcome)
delivered-facts world event (Requested client request) is facts = record {
  outcomes = outcomes-later served world.outcomes outcome record {
    client = client;
    request = request;
    made = request-later world.outcomes outcome event client request is;
    says = reply_to-true is_invalid_entry STORE_BIRTHDAY world.history request within;
  } (λ other. served-keeps (λ whole. IsTrueOutcome whole world.outcomes (outcome_at world.outcomes other))
      (λ whole next. IsTrueOutcome-longer whole next world.outcomes (outcome_at world.outcomes other))
      is_invalid_entry STORE_BIRTHDAY world.history request (facts.outcomes other));
  clients = λ number. ClientFacts-later served world.outcomes outcome (client_at world.clients number)
      (served-keeps (λ whole. ClientFacts whole world.outcomes (client_at world.clients number))
      (λ whole next. ClientFacts-longer whole next world.outcomes (client_at world.clients number))
      is_invalid_entry STORE_BIRTHDAY world.history request (facts.clients number));
}
  where
    served : List (Entry Content)
    served = history_served is_invalid_entry STORE_BIRTHDAY world.history request

    outcome : EventOutcome
    outcome = Delivered event (reply_to is_invalid_entry STORE_BIRTHDAY world.history request)

    within : (kind : Kind) → asked_mark kind request.call ≤ length world.history
    within = subst (λ (made : EventOutcome). IsTrueOutcome world.history world.outcomes made) is (facts.outcomes event)
delivered-facts world event Void is facts = voided-facts world facts
delivered-facts world event Done is facts = voided-facts world facts
delivered-facts world event (Edited client kind number) is facts = voided-facts world facts
delivered-facts world event (Delivered request reply) is facts = voided-facts world facts

-- an event makes one request
request_or : Request Content → EventOutcome → Request Content
request_or other (Requested client request) = request
request_or other Void = other
request_or other Done = other
request_or other (Edited client kind number) = other
request_or other (Delivered event reply) = other

same_request : (outcomes : List EventOutcome) (event first_client second_client : ℕ) (first second : Request Content)
    → outcome_at outcomes event ≡ Requested first_client first → outcome_at outcomes event ≡ Requested second_client second → first ≡ second
unfolding request_or
same_request outcomes event first_client second_client first second is also = ap (λ (outcome : EventOutcome). request_or first outcome) (sym is ∙ also)

-- a client that waits for the reply to a request has seen what that asked
awaited_seen : (outcomes : List EventOutcome) (client : Client) (outstanding : Option ℕ) (event number : ℕ) (request : Request Content)
    → IfSome outstanding (IsAwaiting outcomes client) → is_awaited outstanding event ≡ true → outcome_at outcomes event ≡ Requested number request
    → (kind : Kind) → asked_mark kind request.call ≤ (side_of client kind).seen
awaited_seen outcomes client None event number request awaits is made kind = absurd (false≢true is)
awaited_seen outcomes client (Some other) event number request awaits is made kind =
    subst (λ (asked : Request Content). asked_mark kind asked.call ≤ (side_of client kind).seen)
    (same_request outcomes event awaits.number number awaits.request request
    (subst (λ (at : ℕ). outcome_at outcomes at ≡ Requested awaits.number awaits.request) (eqb-true other event is) awaits.made) made)
    (awaits.asked kind)

-- a reply
replied-facts : (world : World) (event : ℕ) (reply : Reply Content) (outcome : EventOutcome) → outcome_at world.outcomes event ≡ outcome
    → IsAnswered world.history world.outcomes event reply → WorldFacts world → WorldFacts (replied world event reply outcome)
replied-facts world event reply (Requested number request) is answered facts =
    by (is_awaited (client_at world.clients number).outstanding event) refl
  where
    client : Client
    client = client_at world.clients number

    says : IsTrueReply world.history request.call reply
    says = subst (λ (made : Request Content). IsTrueReply world.history made.call reply)
        (same_request world.outcomes event answered.client number answered.request request answered.made is) answered.says

    by : (awaited : Bool) → is_awaited (client_at world.clients number).outstanding event ≡ awaited
        → WorldFacts (cond awaited (affected world number (answer_effect request reply (client_at world.clients number))) (record world { outcomes = Void ∷ world.outcomes }))
    by true awaited = affected-facts world number (answer_effect request reply (client_at world.clients number)) facts
        (answer_effect-facts world.history world.outcomes request reply (client_at world.clients number) says
        (awaited_seen world.outcomes (client_at world.clients number) (client_at world.clients number).outstanding event number request
        (facts.clients number).awaits awaited is) (facts.clients number))
    by false awaited = voided-facts world facts
replied-facts world event reply Void is answered facts = voided-facts world facts
replied-facts world event reply Done is answered facts = voided-facts world facts
replied-facts world event reply (Edited client kind number) is answered facts = voided-facts world facts
replied-facts world event reply (Delivered other others) is answered facts = voided-facts world facts

answered-facts : (world : World) (outcome : EventOutcome) → IsTrueOutcome world.history world.outcomes outcome
    → WorldFacts world → WorldFacts (answered world outcome)
answered-facts world (Delivered request reply) is facts = replied-facts world request reply (outcome_at world.outcomes request) refl is facts
answered-facts world Void is facts = voided-facts world facts
answered-facts world Done is facts = voided-facts world facts
answered-facts world (Edited client kind number) is facts = voided-facts world facts
answered-facts world (Requested client request) is facts = voided-facts world facts

-- an event keeps what holds of a world
pub stepped-facts : (setting : Setting) (event : Event) (world : World) → WorldFacts world → WorldFacts (stepped setting event world)
unfolding stepped
stepped-facts setting (Edit number edit) world facts =
    acted-facts world number _ (λ client. change_effect-facts world.history world.outcomes setting number edit client) facts
stepped-facts setting (Cut number kept edit) world facts =
    acted-facts world number _ (λ client. cut_effect-facts world.history world.outcomes setting number kept edit client) facts
stepped-facts setting (Turn number kind) world facts =
    acted-facts world number _ (λ client. turn_effect-facts world.history world.outcomes setting kind client) facts
stepped-facts setting (Gather number kind) world facts =
    acted-facts world number _ (λ client. gather_effect-facts world.history world.outcomes setting number kind client) facts
stepped-facts setting (Post number kind) world facts =
    acted-facts world number _ (λ client. post_effect-facts world.history world.outcomes setting kind client) facts
stepped-facts setting (Ask number) world facts =
    acted-facts world number _ (λ client. ask_effect-facts world.history world.outcomes number client) facts
stepped-facts setting (Offer number) world facts =
    acted-facts world number _ (λ client. offer_effect-facts world.history world.outcomes number client) facts
stepped-facts setting (Lose number) world facts =
    acted-facts world number _ (λ client. lose_effect-facts world.history world.outcomes client) facts
stepped-facts setting (Crash number) world facts =
    acted-facts world number _ (λ client. crash_effect-facts world.history world.outcomes client) facts
stepped-facts setting (Deliver event) world facts = delivered-facts world event (outcome_at world.outcomes event) refl facts
stepped-facts setting (Answer event) world facts =
    answered-facts world (outcome_at world.outcomes event) (facts.outcomes event) facts
stepped-facts setting (SetPass number pass) world facts =
    acted-facts world number _ (λ client. set_pass_effect-facts world.history world.outcomes setting number (pass_at world.passes pass) client) facts
stepped-facts setting (GivePass number pass) world facts =
    acted-facts world number _ (λ client. give_pass_effect-facts world.history world.outcomes setting (pass_at world.passes pass) client) facts

-- the world before any event
pub opening_client : (P : Client → Type 0) → P new_client → (clients place : ℕ) → P (slice_index_or (replicate clients new_client) place new_client)
opening_client P new zero place = new
opening_client P new (suc clients) zero = new
opening_client P new (suc clients) (suc place) = opening_client P new clients place

opening-facts : (clients seed : ℕ) (passes : List (List ℕ)) → WorldFacts (opening clients seed passes)
unfolding outcome_at
opening-facts clients seed passes = record {
  outcomes = λ event. tt;
  clients = λ number. opening_client (λ client. ClientFacts [] [] client) (new_client-ClientFacts [] []) clients (number - 1);
}

-- each event of a run keeps what holds of a world
run-facts : (setting : Setting) (world : World) (events : List Event) → WorldFacts world → WorldFacts (run setting world events)
unfolding run
run-facts setting world [] facts = facts
run-facts setting world (event ∷ events) facts =
    run-facts setting (stepped setting event world) events (stepped-facts setting event world facts)

pub world_of-facts : (setting : Setting) (schedule : Schedule) → WorldFacts (world_of setting schedule)
world_of-facts setting schedule =
    run-facts setting (opening schedule.clients schedule.seed schedule.passes) schedule.events (opening-facts schedule.clients schedule.seed schedule.passes)
