-- What is said of all that is on its way still is after each event, where it is said of each key.
use Rattle.std.proofs.Common.{◌≡◌, ℕ, zero, suc, ◌-◌, Bool, true, false, cond, List, [], ◌∷◌, slice_index_or, Option, Some, None, refl, sym, ap, ◌∙◌, subst, arith, IfSome}
use Rattle.std.proofs.lemmas.Bool.{eqb-true, false≢true}
use Rattle.client_tags.specs.declared.Kind.{Kind}
use Rattle.sync_model.specs.declared.event.Event.{Event}
use Rattle.sync_model.specs.declared.event.Event.TheVariants.{Edit, Cut, Turn, Gather, Post, Ask, Offer, Lose, Crash, Deliver, Answer, SetPass, GivePass}
use Rattle.sync_model.specs.declared.event.EventOutcome.{EventOutcome}
use Rattle.sync_model.specs.declared.event.EventOutcome.TheVariants.{Void, Done, Edited, Requested, Delivered}
use Rattle.sync_model.specs.declared.message.Content.{Content}
use Rattle.sync_model.specs.declared.message.Reply.{Reply}
use Rattle.sync_model.specs.declared.message.Request.{Request}
use Rattle.sync_model.specs.Settings.{Setting}
use Rattle.sync_model.specs.Servers.{reply_to}
use Rattle.sync_model.specs.Clients.{Client, Effect, new_client}
use Rattle.sync_model.specs.Receiving.{answer_effect}
use Rattle.sync_model.specs.Worlds.{World, client_at, with_client_at, outcome_at, affected, acted, STORE_BIRTHDAY, is_invalid_entry, delivered, is_awaited, replied, answered, pass_at, stepped}
use Rattle.sync_model.specs.FateFacts.{Saying, IsSaidOfCall, IsOfDistinctKeys, IsSaidOfClient, IsSaidOfOutcome, IsSaidOnTheWay, side_at}
use Rattle.sync_model.proofs.FateKeys.{Each}
use Rattle.sync_model.proofs.FateOffers.{IsSaidOfKey}
use Rattle.sync_model.proofs.FateWays.{client-later, said-later, new_client-said, IsSaidOfEffect}
use Rattle.sync_model.proofs.FateEvents.{change_effect-said, cut_effect-said, crash_effect-said, set_pass_effect-said, give_pass_effect-said, gather_effect-said, ask_effect-said, offer_effect-said, lose_effect-said, post_effect-said, turn_effect-said}
use Rattle.sync_model.proofs.FateReplies.{reply_distinct, answer_effect-said}

-- what holds of the client of each place still does where one of them is another one of which it holds
put_client_keeps : (P : ℕ → Client → Type 0) (clients : List Client) (place : ℕ) (client : Client)
    → ((other : ℕ) → P other new_client) → P place client
    → ((other : ℕ) → P other (slice_index_or clients other new_client)) → (other : ℕ) → P other (slice_index_or (with_client_at clients place client) other new_client)
put_client_keeps P [] zero client new here all zero = here
put_client_keeps P [] zero client new here all (suc other) = new (suc other)
put_client_keeps P [] (suc place) client new here all zero = new zero
put_client_keeps P [] (suc place) client new here all (suc other) =
    put_client_keeps (λ at. P (suc at)) [] place client (λ at. new (suc at)) here (λ at. new (suc at)) other
put_client_keeps P (first ∷ clients) zero client new here all zero = here
put_client_keeps P (first ∷ clients) zero client new here all (suc other) = all (suc other)
put_client_keeps P (first ∷ clients) (suc place) client new here all zero = all zero
put_client_keeps P (first ∷ clients) (suc place) client new here all (suc other) =
    put_client_keeps (λ at. P (suc at)) clients place client (λ at. new (suc at)) here (λ at. all (suc at)) other

set_client_at : (P : ℕ → Client → Type 0) (clients : List Client) (place : ℕ) (client : Client)
    → ((other : ℕ) → P other new_client) → P place client → ((other : ℕ) → P other (client_at clients (suc other)))
    → (other : ℕ) → P other (client_at (with_client_at clients (suc place - 1) client) (suc other))
set_client_at P clients place client new here all other =
    subst (λ (at : ℕ). P other (slice_index_or (with_client_at clients at client) (suc other - 1) new_client)) (sym (before place))
    (subst (λ (at : ℕ). P other (slice_index_or (with_client_at clients place client) at new_client)) (sym (before other))
    (put_client_keeps P clients place client new here
    (λ next. subst (λ (at : ℕ). P next (slice_index_or clients at new_client)) (before next) (all next)) other))
  where
    before : (number : ℕ) → suc number - 1 ≡ number
    before number = omega arith

-- this is said of each key of a client
abbrev pub IsSaidOfKeys : (ℕ → Saying) → World → ℕ → Type 0
IsSaidOfKeys Says world number = (kind : Kind) → Each (λ hash. IsSaidOfKey (Says number) kind) (side_at world number kind).states

-- a void event
voided-said : (Says : ℕ → Saying) (world : World) → IsSaidOnTheWay Says world → IsSaidOnTheWay Says (record world { outcomes = Void ∷ world.outcomes })
voided-said Says world said = record {
  clients = λ place. client-later (Says (suc place)) (suc place) world.outcomes Void (client_at world.clients (suc place)) (said.clients place);
  outcomes = said-later Says world.outcomes Void tt said.outcomes;
}

-- an event of a client
affected-said : (Says : ℕ → Saying) (world : World) (place : ℕ) (effect : Option Effect) → IsSaidOfEffect Says (suc place) world.outcomes effect
    → IsSaidOnTheWay Says world → IsSaidOnTheWay Says (affected world (suc place) effect)
unfolding affected
affected-said Says world place None made said = voided-said Says world said
affected-said Says world place (Some effect) made said = record {
  clients = set_client_at (λ other client. IsSaidOfClient (Says (suc other)) (suc other) (effect.outcome ∷ world.outcomes) client)
      world.clients place effect.client (λ other. new_client-said (Says (suc other)) (suc other) (effect.outcome ∷ world.outcomes)) made.0
      (λ other. client-later (Says (suc other)) (suc other) world.outcomes effect.outcome (client_at world.clients (suc other)) (said.clients other));
  outcomes = said-later Says world.outcomes effect.outcome made.1 said.outcomes;
}

acted-said : (Says : ℕ → Saying) (world : World) (number : ℕ) (event : Client → Option Effect)
    → (IsSaidOfKeys Says world number → IsSaidOfClient (Says number) number world.outcomes (client_at world.clients number)
    → IsSaidOfEffect Says number world.outcomes (event (client_at world.clients number)))
    → ((place : ℕ) → IsSaidOfKeys Says world (suc place)) → IsSaidOnTheWay Says world → IsSaidOnTheWay Says (acted world number event)
acted-said Says world zero event makes keys said = voided-said Says world said
acted-said Says world (suc place) event makes keys said =
    affected-said Says world place (event (client_at world.clients (suc place))) (makes (keys place) (said.clients place)) said

-- a delivery
delivered-said : (Says : ℕ → Saying) (world : World) (event : ℕ) (outcome : EventOutcome) → IsSaidOnTheWay Says world
    → IsSaidOnTheWay Says (delivered world event outcome)
delivered-said Says world event (Requested client request) said = record {
  clients = λ place. client-later (Says (suc place)) (suc place) world.outcomes handled (client_at world.clients (suc place)) (said.clients place);
  outcomes = said-later Says world.outcomes handled (reply_distinct is_invalid_entry STORE_BIRTHDAY world.history request) said.outcomes;
}
  where
    handled : EventOutcome
    handled = Delivered event (reply_to is_invalid_entry STORE_BIRTHDAY world.history request)
delivered-said Says world event Void said = voided-said Says world said
delivered-said Says world event Done said = voided-said Says world said
delivered-said Says world event (Edited client kind number) said = voided-said Says world said
delivered-said Says world event (Delivered request reply) said = voided-said Says world said

-- a client waits for a request of its own
abbrev author_of : EventOutcome → ℕ
author_of (Requested client request) = client
author_of Void = 0
author_of Done = 0
author_of (Edited client kind number) = 0
author_of (Delivered request reply) = 0

awaited_own : (outcomes : List EventOutcome) (outstanding : Option ℕ) (event number author : ℕ) (request : Request Content)
    → IfSome outstanding (λ event. (made : Request Content) × (outcome_at outcomes event ≡ Requested number made))
    → is_awaited outstanding event ≡ true → outcome_at outcomes event ≡ Requested author request → author ≡ number
awaited_own outcomes None event number author request awaits awaited is = absurd (false≢true awaited)
awaited_own outcomes (Some other) event number author request awaits awaited is =
    ap author_of (sym is ∙ ap (λ (at : ℕ). outcome_at outcomes at) (sym (eqb-true other event awaited)) ∙ awaits.1)

-- no client has the number 0, so none waits for a request of it
pub not_by_none : (Says : ℕ → Saying) (world : World) (event : ℕ) (request : Request Content) → IsSaidOnTheWay Says world
    → is_awaited (client_at world.clients 0).outstanding event ≡ true → outcome_at world.outcomes event ≡ Requested 0 request → ⊥
not_by_none Says world event request said awaited is =
    none_zero (awaited_own world.outcomes (client_at world.clients 1).outstanding event 1 0 request (said.clients 0).awaits awaited is)
  where
    none_zero : zero ≡ suc zero → ⊥
    none_zero same = omega (arith, same)

-- a reply to a request
replied_by : (Says : ℕ → Saying) (world : World) (event delivery number : ℕ) (reply : Reply Content) (request : Request Content) (awaited : Bool)
    → is_awaited (client_at world.clients number).outstanding event ≡ awaited
    → outcome_at world.outcomes event ≡ Requested number request → outcome_at world.outcomes delivery ≡ Delivered event reply
    → IsSaidOfCall (Says number) request.call → IsOfDistinctKeys reply.verdict → IsSaidOnTheWay Says world
    → IsSaidOnTheWay Says (cond awaited (affected world number (answer_effect request reply (client_at world.clients number))) (record world { outcomes = Void ∷ world.outcomes }))
replied_by Says world event delivery number reply request false awaited is handled call distinct said = voided-said Says world said
replied_by Says world event delivery zero reply request true awaited is handled call distinct said =
    absurd (not_by_none Says world event request said awaited is)
replied_by Says world event delivery (suc place) reply request true awaited is handled call distinct said =
    affected-said Says world place (answer_effect request reply (client_at world.clients (suc place)))
    (answer_effect-said Says (suc place) world.outcomes event delivery request reply (client_at world.clients (suc place)) is handled call distinct (said.clients place)) said

replied-said : (Says : ℕ → Saying) (world : World) (event delivery : ℕ) (reply : Reply Content) (outcome : EventOutcome)
    → outcome_at world.outcomes event ≡ outcome → outcome_at world.outcomes delivery ≡ Delivered event reply
    → IsSaidOfOutcome Says outcome → IsOfDistinctKeys reply.verdict → IsSaidOnTheWay Says world → IsSaidOnTheWay Says (replied world event reply outcome)
replied-said Says world event delivery reply (Requested client request) is handled call distinct said =
    replied_by Says world event delivery client reply request (is_awaited (client_at world.clients client).outstanding event) refl is handled call distinct said
replied-said Says world event delivery reply Void is handled call distinct said = voided-said Says world said
replied-said Says world event delivery reply Done is handled call distinct said = voided-said Says world said
replied-said Says world event delivery reply (Edited client kind number) is handled call distinct said = voided-said Says world said
replied-said Says world event delivery reply (Delivered other others) is handled call distinct said = voided-said Says world said

answered-said : (Says : ℕ → Saying) (world : World) (event : ℕ) (outcome : EventOutcome) → outcome_at world.outcomes event ≡ outcome
    → IsSaidOfOutcome Says outcome → IsSaidOnTheWay Says world → IsSaidOnTheWay Says (answered world outcome)
answered-said Says world event (Delivered request reply) is distinct said =
    replied-said Says world request event reply (outcome_at world.outcomes request) refl is (said.outcomes request) distinct said
answered-said Says world event Void is distinct said = voided-said Says world said
answered-said Says world event Done is distinct said = voided-said Says world said
answered-said Says world event (Edited client kind number) is distinct said = voided-said Says world said
answered-said Says world event (Requested client request) is distinct said = voided-said Says world said

-- an event keeps what is said of all that is on its way
pub stepped-said : (Says : ℕ → Saying) (setting : Setting) (event : Event) (world : World) → ((place : ℕ) → IsSaidOfKeys Says world (suc place))
    → IsSaidOnTheWay Says world → IsSaidOnTheWay Says (stepped setting event world)
unfolding stepped
stepped-said Says setting (Edit number edit) world keys said =
    acted-said Says world number _ (λ keys. change_effect-said Says number world.outcomes setting edit (client_at world.clients number)) keys said
stepped-said Says setting (Cut number kept edit) world keys said =
    acted-said Says world number _ (λ keys said. cut_effect-said Says number world.outcomes setting kept edit (client_at world.clients number)) keys said
stepped-said Says setting (Turn number kind) world keys said =
    acted-said Says world number _ (λ keys. turn_effect-said Says number world.outcomes setting kind (client_at world.clients number)) keys said
stepped-said Says setting (Gather number kind) world keys said =
    acted-said Says world number _ (λ keys. gather_effect-said Says number world.outcomes setting kind (client_at world.clients number) (keys kind)) keys said
stepped-said Says setting (Post number kind) world keys said =
    acted-said Says world number _ (λ keys. post_effect-said Says number world.outcomes setting kind (client_at world.clients number)) keys said
stepped-said Says setting (Ask number) world keys said =
    acted-said Says world number _ (λ keys. ask_effect-said Says number world.outcomes (client_at world.clients number)) keys said
stepped-said Says setting (Offer number) world keys said =
    acted-said Says world number _ (λ keys. offer_effect-said Says number world.outcomes (client_at world.clients number)) keys said
stepped-said Says setting (Lose number) world keys said =
    acted-said Says world number _ (λ keys. lose_effect-said Says number world.outcomes (client_at world.clients number)) keys said
stepped-said Says setting (Crash number) world keys said =
    acted-said Says world number _ (λ keys said. crash_effect-said Says number world.outcomes (client_at world.clients number)) keys said
stepped-said Says setting (Deliver event) world keys said = delivered-said Says world event (outcome_at world.outcomes event) said
stepped-said Says setting (Answer event) world keys said =
    answered-said Says world event (outcome_at world.outcomes event) refl (said.outcomes event) said
stepped-said Says setting (SetPass number pass) world keys said =
    acted-said Says world number _ (λ keys. set_pass_effect-said Says number world.outcomes setting (pass_at world.passes pass) (client_at world.clients number)) keys said
stepped-said Says setting (GivePass number pass) world keys said =
    acted-said Says world number _ (λ keys. give_pass_effect-said Says number world.outcomes setting (pass_at world.passes pass) (client_at world.clients number)) keys said
