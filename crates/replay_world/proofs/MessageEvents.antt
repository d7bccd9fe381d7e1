-- What a delivery and a reply make of a world.
use Rattle.std.proofs.Common.{◌≡◌, ℕ, ◌-◌, arith, Bool, true, false, cond, List, ◌∷◌, length, get_or, set, Option, Some, None, refl, sym, ap, subst, ◌∙◌}
use Rattle.std.proofs.lemmas.List.{length-set}
use Rattle.std.specs.List.{AllByRecursion}
use Rattle.sync_model.specs.declared.event.EventOutcome.{EventOutcome}
use Rattle.sync_model.specs.declared.event.EventOutcome.TheVariants.{Void, Done, Edited, Requested, Delivered}
use Rattle.sync_model.specs.declared.fate.Settlement.{Settlement}
use Rattle.sync_model.specs.declared.message.Content.{Content}
use Rattle.sync_model.specs.declared.message.Entry.{Entry}
use Rattle.sync_model.specs.declared.message.Reply.{Reply}
use Rattle.sync_model.specs.declared.message.Request.{Request}
use Rattle.sync_model.specs.Clients.{Client}
use Rattle.sync_model.specs.Receiving.{answer_effect}
use Rattle.sync_model.specs.Servers.{history_served}
use Rattle.sync_model.specs.Worlds.{World, client_at, affected, voided, STORE_BIRTHDAY, is_invalid_entry, delivered, is_awaited, replied, answered, outcome_at}
use Rattle.replay_messages.specs.Messages.{reply_told}
use Rattle.replay_messages.specs.Spelled.{IsReplyBytes}
use Rattle.replay_client.specs.Happenings.{HappensAlone}
use Rattle.replay_world.specs.declared.happened.Happened.{Happened}
use Rattle.replay_world.specs.declared.happened.Happened.TheVariants as kept
use Rattle.replay_world.specs.Asked.{IsNoRequest, IsNoDelivery}
use Rattle.replay_world.specs.Events.{IsNumber}
use Rattle.replay_world.specs.Outcomes.{history_at, served_reply, reply_of, outcome_of, outcomes_of, kept_at, IsRequest, IsReply, IsDelivery, AreKept, IsOfClient, IsQuiet}
use Rattle.replay_world.specs.Steps.{world_with, Delivers, Receives}
use Rattle.replay_world.proofs.ClientEvents.{client_found, affected_is, same_clients}
use Rattle.replay_world.proofs.Kept.{IsFound, missing, found, all_found, AreStill, still}
use Rattle.replay_world.proofs.Served.{IsLonger, served_longer, longer_length, longer_drop}

-- an event made no request
abbrev IsNoAsk : EventOutcome → Type 0
IsNoAsk Void = Unit {0}
IsNoAsk Done = Unit {0}
IsNoAsk (Edited client kind number) = Unit {0}
IsNoAsk (Requested client request) = ⊥
IsNoAsk (Delivered request reply) = Unit {0}

-- an event was no delivery
abbrev IsNoReply : EventOutcome → Type 0
IsNoReply Void = Unit {0}
IsNoReply Done = Unit {0}
IsNoReply (Edited client kind number) = Unit {0}
IsNoReply (Requested client request) = Unit {0}
IsNoReply (Delivered request reply) = ⊥

no_ask_of : (history : List (Entry Content)) (outcomes : List EventOutcome) (happened : Happened) → IsNoRequest (Some happened) → IsNoAsk (outcome_of history outcomes happened)
no_ask_of history outcomes kept.Void none = tt
no_ask_of history outcomes kept.Done none = tt
no_ask_of history outcomes (kept.Edited client kind number) none = tt
no_ask_of history outcomes (kept.Requested client request bytes) none = none
no_ask_of history outcomes (kept.Delivered request before bytes) none = tt

no_reply_of : (history : List (Entry Content)) (outcomes : List EventOutcome) (happened : Happened) → IsNoDelivery (Some happened) → IsNoReply (outcome_of history outcomes happened)
no_reply_of history outcomes kept.Void none = tt
no_reply_of history outcomes kept.Done none = tt
no_reply_of history outcomes (kept.Edited client kind number) none = tt
no_reply_of history outcomes (kept.Requested client request bytes) none = tt
no_reply_of history outcomes (kept.Delivered request before bytes) none = none

no_ask : (history : List (Entry Content)) (earlier : List Happened) (event : ℕ) (at : Option Happened) → AreKept history earlier → kept_at earlier event ≡ at → IsNoRequest at
    → IsNoAsk (outcome_at (outcomes_of history earlier) event)
no_ask history earlier event None are is none = subst IsNoAsk (sym (missing history earlier event is)) tt
no_ask history earlier event (Some happened) are is none =
    let at : IsFound history (outcomes_of history earlier) event happened = found history earlier event happened are is in
    subst IsNoAsk (sym at.is_outcome) (no_ask_of history at.before happened none)

no_reply : (history : List (Entry Content)) (earlier : List Happened) (event : ℕ) (at : Option Happened) → AreKept history earlier → kept_at earlier event ≡ at → IsNoDelivery at
    → IsNoReply (outcome_at (outcomes_of history earlier) event)
no_reply history earlier event None are is none = subst IsNoReply (sym (missing history earlier event is)) tt
no_reply history earlier event (Some happened) are is none =
    let at : IsFound history (outcomes_of history earlier) event happened = found history earlier event happened are is in
    subst IsNoReply (sym at.is_outcome) (no_reply_of history at.before happened none)

delivered_void : (world : World) (event : ℕ) (outcome : EventOutcome) → IsNoAsk outcome → delivered world event outcome ≡ voided world
delivered_void world event Void none = refl
delivered_void world event Done none = refl
delivered_void world event (Edited client kind number) none = refl
delivered_void world event (Requested client request) none = absurd none
delivered_void world event (Delivered request reply) none = refl

answered_void : (world : World) (outcome : EventOutcome) → IsNoReply outcome → answered world outcome ≡ voided world
answered_void world Void none = refl
answered_void world Done none = refl
answered_void world (Edited client kind number) none = refl
answered_void world (Requested client request) none = refl
answered_void world (Delivered request reply) none = absurd none

-- a delivery of what is no request
pub delivers_nothing : (earlier : List Happened) (event : ℕ) (history : List (Entry Content)) → AreKept history earlier → IsNoRequest (kept_at earlier event)
    → Delivers earlier event history history kept.Void
unfolding AreKept outcomes_of
delivers_nothing earlier event history are none = record {
  same = refl;
  own = λ clients. tt;
  kept = (tt, are);
  delivers = λ seed clients settled. delivered_void (world_with seed history (outcomes_of history earlier) clients settled) event (outcome_at (outcomes_of history earlier) event)
      (no_ask history earlier event (kept_at earlier event) are refl none);
}

-- the bytes of a request that is found
pub request_found : (history : List (Entry Content)) (earlier : List Happened) (event client : ℕ) (request : Request Content) (bytes : List ℕ) → AreKept history earlier
    → kept_at earlier event ≡ Some (kept.Requested client request bytes) → IsRequest client request bytes
request_found history earlier event client request bytes are is = (found history earlier event (kept.Requested client request bytes) are is).is_kept

-- a delivery of a request
pub delivers_reply : (earlier : List Happened) (event : ℕ) (before next : List (Entry Content)) (count client : ℕ) (request : Request Content) (asked bytes : List ℕ) → AreKept before earlier
    → kept_at earlier event ≡ Some (kept.Requested client request asked) → count ≡ length before → next ≡ history_served is_invalid_entry STORE_BIRTHDAY before request
    → IsReply request (served_reply before request) bytes → Delivers earlier event before next (kept.Delivered event count bytes)
unfolding AreKept outcomes_of
delivers_reply earlier event before next count client request asked bytes are is is_count is_next says =
    let at : IsFound before (outcomes_of before earlier) event (kept.Requested client request asked) = found before earlier event (kept.Requested client request asked) are is in
    let longer : IsLonger next before = subst (λ (history : List (Entry Content)). IsLonger history before) (sym is_next) (served_longer is_invalid_entry STORE_BIRTHDAY before request) in
    let rest : AreStill next before earlier = still next before earlier longer are in
    let as_it_was : history_at next count ≡ before = ap (history_at next) is_count ∙ longer_drop next before longer in
    let made : outcome_at (outcomes_of next earlier) event ≡ Requested client request = ap (λ (outcomes : List EventOutcome). outcome_at outcomes event) rest.same ∙ at.is_outcome in
    let reply : reply_of (history_at next count) (outcome_at (outcomes_of next earlier) event) ≡ served_reply before request = λ i. reply_of (as_it_was i) (made i) in
    record {
      same = rest.same;
      own = λ clients. tt;
      kept = (
        record {
          client = client;
          request = request;
          made = made;
          within = omega (arith, is_count, longer_length next before longer);
          says = subst (λ (past : List (Entry Content)). IsReply request (served_reply past request) bytes) (sym as_it_was) says;
        },
        rest.kept,
      );
      delivers = λ seed clients settled. ap (delivered (world_with seed before (outcomes_of before earlier) clients settled) event) at.is_outcome
          ∙ (λ i. world_with seed (sym is_next i) (Delivered event (sym reply i) ∷ sym rest.same i) clients settled);
    }

-- an answer of what is no delivery
pub receives_nothing : (history : List (Entry Content)) (earlier : List Happened) (event : ℕ) (clients : List Client) → AreKept history earlier → IsNoDelivery (kept_at earlier event)
    → Receives history earlier event clients clients kept.Void
unfolding outcomes_of
receives_nothing history earlier event clients are none = record {
  quiet = tt;
  counted = refl;
  receives = λ seed settled. answered_void (world_with seed history (outcomes_of history earlier) clients settled) (outcome_at (outcomes_of history earlier) event)
      (no_reply history earlier event (kept_at earlier event) are refl none);
}

-- a delivery and its request, as they are found
pub record IsTold (history : List (Entry Content)) (earlier : List Happened) (event request count : ℕ) (bytes : List ℕ) (client : ℕ) (asked : Request Content) : Type 0 where
  pub made : outcome_at (outcomes_of history earlier) request ≡ Requested client asked
  pub is_outcome : outcome_at (outcomes_of history earlier) event ≡ Delivered request (served_reply (history_at history count) asked)
  pub says : IsReply asked (served_reply (history_at history count) asked) bytes

delivery_found : (history : List (Entry Content)) (earlier : List Happened) (event request count : ℕ) (bytes : List ℕ) → AreKept history earlier
    → kept_at earlier event ≡ Some (kept.Delivered request count bytes) → (client : ℕ) × (asked : Request Content) × IsTold history earlier event request count bytes client asked
delivery_found history earlier event request count bytes are is =
    let at : IsFound history (outcomes_of history earlier) event (kept.Delivered request count bytes) = found history earlier event (kept.Delivered request count bytes) are is in
    let delivery : IsDelivery history at.before request count bytes = at.is_kept in (
      delivery.client,
      delivery.request,
      record {
        made = at.asked request delivery.client delivery.request delivery.made;
        is_outcome = at.is_outcome ∙ ap (λ (outcome : EventOutcome). Delivered request (reply_of (history_at history count) outcome)) delivery.made;
        says = delivery.says;
      },
    )

-- the request of a delivery is found
pub receives_no_request : {P : Type 0} (history : List (Entry Content)) (earlier : List Happened) (event request count : ℕ) (bytes : List ℕ) → AreKept history earlier
    → kept_at earlier event ≡ Some (kept.Delivered request count bytes) → IsNoRequest (kept_at earlier request) → P
receives_no_request history earlier event request count bytes are is none =
    let told = delivery_found history earlier event request count bytes are is in
    absurd (subst IsNoAsk told.2.made (no_ask history earlier request (kept_at earlier request) are refl none))

same_request : (client other : ℕ) (request asked : Request Content) → Requested other asked ≡ Requested client request → asked ≡ request
same_request client other request asked is = cc

-- a delivery, by the request that is found
pub is_told : (history : List (Entry Content)) (earlier : List Happened) (event request count : ℕ) (bytes : List ℕ) (client : ℕ) (asked : Request Content) (sent : List ℕ) → AreKept history earlier
    → kept_at earlier event ≡ Some (kept.Delivered request count bytes) → kept_at earlier request ≡ Some (kept.Requested client asked sent)
    → IsTold history earlier event request count bytes client asked
is_told history earlier event request count bytes client asked sent are is is_request =
    let told = delivery_found history earlier event request count bytes are is in
    let at : IsFound history (outcomes_of history earlier) request (kept.Requested client asked sent) = found history earlier request (kept.Requested client asked sent) are is_request in
    let same : told.1 ≡ asked = same_request client told.0 asked told.1 (sym told.2.made ∙ at.is_outcome) in
    record {
      made = at.is_outcome;
      is_outcome = told.2.is_outcome ∙ ap (λ (r : Request Content). Delivered request (served_reply (history_at history count) r)) same;
      says = subst (λ (r : Request Content). IsReply r (served_reply (history_at history count) r) bytes) same told.2.says;
    }

-- the bytes of a delivery's reply can be read
pub reply_bytes : (asked : Request Content) (reply : Reply Content) (bytes : List ℕ) → IsReply asked reply bytes → IsReplyBytes bytes
reply_bytes asked reply bytes says = record { message = reply_told 0 asked reply; is_sayable = says.sayable 0; are_bytes = says.is_told 0 }

-- what an answer of a delivery is
answered_is : (seed : ℕ) (history : List (Entry Content)) (earlier : List Happened) (event request count : ℕ) (bytes : List ℕ) (number : ℕ) (asked : Request Content) (clients : List Client) (settled : List Settlement) (client : Client) (awaited : Bool)
    → IsTold history earlier event request count bytes number asked → client ≡ client_at clients number → is_awaited client.outstanding request ≡ awaited
    → answered (world_with seed history (outcomes_of history earlier) clients settled) (outcome_at (outcomes_of history earlier) event)
    ≡ cond awaited (affected (world_with seed history (outcomes_of history earlier) clients settled) number (answer_effect asked (served_reply (history_at history count) asked) client))
    (voided (world_with seed history (outcomes_of history earlier) clients settled))
answered_is seed history earlier event request count bytes number asked clients settled client awaited told is_client is_awaited_so =
    let world : World = world_with seed history (outcomes_of history earlier) clients settled in
    let reply : Reply Content = served_reply (history_at history count) asked in
    ap (answered world) told.is_outcome
    ∙ ap (replied world request reply) told.made
    ∙ (λ i. cond (is_awaited (sym is_client i).outstanding request) (affected world number (answer_effect asked reply (sym is_client i))) (voided world))
    ∙ (λ i. cond (is_awaited_so i) (affected world number (answer_effect asked reply client)) (voided world))

-- a reply that is not waited for
pub receives_unawaited : (history : List (Entry Content)) (earlier : List Happened) (event request count : ℕ) (bytes : List ℕ) (number : ℕ) (asked : Request Content) (clients : List Client) (client : Client)
    → IsTold history earlier event request count bytes number asked → IsNumber (length clients) number → client ≡ get_or clients (number - 1) client → is_awaited client.outstanding request ≡ false
    → Receives history earlier event clients (set clients (number - 1) client) kept.Void
unfolding outcomes_of
receives_unawaited history earlier event request count bytes number asked clients client told is at unawaited = record {
  quiet = tt;
  counted = length-set clients (number - 1) client;
  receives = λ seed settled. answered_is seed history earlier event request count bytes number asked clients settled client false told (client_found clients number client is at) unawaited
      ∙ ap (λ (same : List Client). world_with seed history (Void ∷ outcomes_of history earlier) same settled) (sym (same_clients clients (number - 1) client client at refl));
}

-- a reply that is waited for
pub receives_reply : (history : List (Entry Content)) (earlier : List Happened) (event request count : ℕ) (bytes : List ℕ) (number : ℕ) (asked : Request Content) (clients : List Client) (client new : Client) (outcome : EventOutcome) (happened : Happened)
    → IsTold history earlier event request count bytes number asked → IsNumber (length clients) number → client ≡ get_or clients (number - 1) client → is_awaited client.outstanding request ≡ true
    → HappensAlone (answer_effect asked (served_reply (history_at history count) asked) client) outcome client new
    → IsQuiet happened → ((past : List (Entry Content)) (before : List EventOutcome) → outcome_of past before happened ≡ outcome)
    → Receives history earlier event clients (set clients (number - 1) new) happened
unfolding outcomes_of
receives_reply history earlier event request count bytes number asked clients client new outcome happened told is at awaited happens quiet same = record {
  quiet = quiet;
  counted = length-set clients (number - 1) new;
  receives = λ seed settled. answered_is seed history earlier event request count bytes number asked clients settled client true told (client_found clients number client is at) awaited
      ∙ affected_is seed history (outcomes_of history earlier) clients settled settled number (answer_effect asked (served_reply (history_at history count) asked) client) outcome client new (omega (arith, is.from_one, is.within)) at (happens number settled)
      ∙ ap (λ (first : EventOutcome). world_with seed history (first ∷ outcomes_of history earlier) (set clients (number - 1) new) settled) (sym (same history (outcomes_of history earlier)));
}

-- the client that a request is of is there
pub number_found : (clients : ℕ) (earlier : List Happened) (event client : ℕ) (request : Request Content) (bytes : List ℕ) → AllByRecursion (IsOfClient clients) earlier
    → kept_at earlier event ≡ Some (kept.Requested client request bytes) → IsNumber clients client
number_found clients earlier event client request bytes all is = all_found (IsOfClient clients) earlier event (kept.Requested client request bytes) all is
