-- Every event keeps the profile's keys; so no key that seals a write is lost, and each current client has them all.
use Rattle.std.proofs.Common.{◌≡◌, ℕ, zero, suc, ◌-◌, Bool, true, false, cond, List, [], ◌∷◌, replicate, slice_index_or, Option, Some, None, refl, sym, ap, ◌∙◌, subst}
use Rattle.std.proofs.lemmas.Bool.{false≢true, eqb-true}
use Rattle.key_derivation.specs.declared.NigoriKey.{NigoriKey}
use Rattle.sync_model.specs.declared.event.Event.{Event}
use Rattle.sync_model.specs.declared.event.Event.TheVariants.{Edit, Cut, Turn, Gather, Post, Ask, Offer, Lose, Crash, Deliver, Answer, SetPass, GivePass}
use Rattle.sync_model.specs.declared.event.EventOutcome.{EventOutcome}
use Rattle.sync_model.specs.declared.event.EventOutcome.TheVariants.{Void, Done, Edited, Requested, Delivered}
use Rattle.sync_model.specs.declared.event.Schedule.{Schedule}
use Rattle.sync_model.specs.declared.message.Answer.TheVariants.{Success}
use Rattle.sync_model.specs.declared.message.Content.{Content}
use Rattle.sync_model.specs.declared.message.Entry.{Entry}
use Rattle.sync_model.specs.declared.message.Reply.{Reply}
use Rattle.sync_model.specs.declared.state.KeyState.{KeyState}
use Rattle.sync_model.specs.Values.{keys_in}
use Rattle.sync_model.specs.Settings.{Setting, nigori_hash, names_of}
use Rattle.sync_model.specs.History.{last_version}
use Rattle.sync_model.specs.Servers.{reply_to, history_served}
use Rattle.sync_model.specs.Sides.{state_at}
use Rattle.sync_model.specs.Clients.{Client, new_client, Effect}
use Rattle.sync_model.specs.Receiving.{answer_effect}
use Rattle.sync_model.specs.Outcomes.{entries_in, entries_sent, writes_in, writes_given}
use Rattle.sync_model.specs.Laws.{answer_in, Stores, locks_of, newest_keys, NoLockIsLost, EveryCurrentClientHasTheKeys}
use Rattle.sync_model.specs.Deliveries.{IsStored, DeliveriesAreTrue}
use Rattle.sync_model.specs.KeyFacts.{Each, HaveNames, profile_key, profile_at, HistoryHasKeys, KeepsKeys, IsGiven, HasKeys, WorldHasKeys}
use Rattle.sync_model.specs.Worlds.{World, opening, client_at, with_client_at, pass_at, outcome_at, affected, acted, STORE_BIRTHDAY, is_invalid_entry, delivered, is_awaited, replied, answered, stepped, run}
use Rattle.sync_model.proofs.StepOutcomes.{each_outcome}
use Rattle.sync_model.proofs.KeyNames.{has_names-through}
use Rattle.sync_model.proofs.KeyHistory.{GoesOn, GoesOn-self, EachKeepsKeys-later, locks_in_newest}
use Rattle.sync_model.proofs.KeyClients.{IsTold-later, ClientHasKeys-later, new_client-HasKeys}
use Rattle.sync_model.proofs.KeyEvents.{MayHaveKeys, change_effect-HasKeys, cut_effect-HasKeys, crash_effect-HasKeys, lose_effect-HasKeys, set_pass_effect-HasKeys, give_pass_effect-HasKeys}
use Rattle.sync_model.proofs.KeyMails.{turn_effect-HasKeys, post_effect-HasKeys}
use Rattle.sync_model.proofs.KeySending.{gather_effect-HasKeys, ask_effect-HasKeys, offer_effect-HasKeys}
use Rattle.sync_model.proofs.KeyReplies.{reply-given, served-GoesOnWithKeys, answer_effect-HasKeys}
use Rattle.sync_model.proofs.Deliveries.{stepped-DeliveriesAreTrue, opening-DeliveriesAreTrue}

-- what is given stays so where the history goes on
given-later : (setting : Setting) (old new : List (Entry Content)) (writes : List (Entry Content)) → GoesOn setting old new
    → Each (IsGiven setting old) writes → Each (IsGiven setting new) writes
given-later setting old new [] on given = tt
given-later setting old new (write ∷ writes) on given =
    (λ is. IsTold-later setting old new write.key.hash write.version write.content.value on (given.0 is), given-later setting old new writes on given.1)

-- what is so of one client, and of the others, is so of each
each_client : (P : Client → Type 0) (clients : List Client) (place : ℕ) (client : Client) → P new_client → P client
    → ((number : ℕ) → P (slice_index_or clients number new_client)) → (number : ℕ) → P (slice_index_or (with_client_at clients place client) number new_client)
each_client P [] zero client new one others zero = one
each_client P [] zero client new one others (suc number) = new
each_client P [] (suc place) client new one others zero = new
each_client P [] (suc place) client new one others (suc number) = each_client P [] place client new one others number
each_client P (other ∷ clients) zero client new one others zero = one
each_client P (other ∷ clients) zero client new one others (suc number) = others (suc number)
each_client P (other ∷ clients) (suc place) client new one others zero = others zero
each_client P (other ∷ clients) (suc place) client new one others (suc number) =
    each_client P clients place client new one (λ next. others (suc next)) number

-- an event that changes no client
unchanged-WorldHasKeys : (setting : Setting) (world : World) (history : List (Entry Content)) (outcome : EventOutcome) → HistoryHasKeys setting history
    → GoesOn setting world.history history → Each (KeepsKeys setting history) (entries_sent outcome) → Each (IsGiven setting history) (writes_given outcome)
    → WorldHasKeys setting world
    → WorldHasKeys setting (record world { history = history; outcomes = outcome ∷ world.outcomes })
unchanged-WorldHasKeys setting world history outcome kept on sent gave before = record {
  history = kept;
  requests = each_outcome (λ (made : EventOutcome). Each (KeepsKeys setting history) (entries_sent made)) outcome world.outcomes sent
      (λ event. EachKeepsKeys-later setting world.history history (entries_sent (outcome_at world.outcomes event)) on (before.requests event));
  gives = each_outcome (λ (made : EventOutcome). Each (IsGiven setting history) (writes_given made)) outcome world.outcomes gave
      (λ event. given-later setting world.history history (writes_given (outcome_at world.outcomes event)) on (before.gives event));
  clients = λ place. let client : Client = slice_index_or world.clients place new_client
      in ClientHasKeys-later setting world.history history outcome world.outcomes client.nigori client.bag client.held client.outstanding on (before.clients place);
}

voided-WorldHasKeys : (setting : Setting) (world : World) → WorldHasKeys setting world → WorldHasKeys setting (record world { outcomes = Void ∷ world.outcomes })
voided-WorldHasKeys setting world before =
    unchanged-WorldHasKeys setting world world.history Void before.history (GoesOn-self setting world.history) tt tt before

affected-WorldHasKeys : (setting : Setting) (world : World) (number : ℕ) (effect : Option Effect) → MayHaveKeys setting world.history world.outcomes effect
    → WorldHasKeys setting world → WorldHasKeys setting (affected world number effect)
unfolding affected
affected-WorldHasKeys setting world number None has before = voided-WorldHasKeys setting world before
affected-WorldHasKeys setting world number (Some effect) has before =
    let others = unchanged-WorldHasKeys setting world world.history effect.outcome before.history (GoesOn-self setting world.history) has.sent has.gave before
    in record {
      history = before.history;
      requests = others.requests;
      gives = others.gives;
      clients = each_client (λ (client : Client). HasKeys setting world.history (effect.outcome ∷ world.outcomes) client) world.clients (number - 1) effect.client
          (new_client-HasKeys setting world.history (effect.outcome ∷ world.outcomes)) has.client others.clients;
    }

acted-WorldHasKeys : (setting : Setting) (world : World) (number : ℕ) (event : Client → Option Effect)
    → ((client : Client) → HasKeys setting world.history world.outcomes client → MayHaveKeys setting world.history world.outcomes (event client))
    → WorldHasKeys setting world → WorldHasKeys setting (acted world number event)
acted-WorldHasKeys setting world zero event has before = voided-WorldHasKeys setting world before
acted-WorldHasKeys setting world (suc place) event has before =
    affected-WorldHasKeys setting world (suc place) (event (client_at world.clients (suc place)))
    (has (client_at world.clients (suc place)) (before.clients (suc place - 1))) before

-- a request is delivered
delivered-WorldHasKeys : (setting : Setting) (world : World) (event : ℕ) (outcome : EventOutcome) → outcome_at world.outcomes event ≡ outcome
    → WorldHasKeys setting world → WorldHasKeys setting (delivered world event outcome)
delivered-WorldHasKeys setting world event (Requested client request) made before =
    let keeps : Each (KeepsKeys setting world.history) (entries_in request.call)
    = subst (λ (outcome : EventOutcome). Each (KeepsKeys setting world.history) (entries_sent outcome)) made (before.requests event)
    in let served = served-GoesOnWithKeys setting world.history request before.history keeps
    in unchanged-WorldHasKeys setting world (history_served is_invalid_entry STORE_BIRTHDAY world.history request)
    (Delivered event (reply_to is_invalid_entry STORE_BIRTHDAY world.history request)) served.has_keys served.goes_on tt
    (reply-given setting world.history request before.history) before
delivered-WorldHasKeys setting world event Void made before = voided-WorldHasKeys setting world before
delivered-WorldHasKeys setting world event Done made before = voided-WorldHasKeys setting world before
delivered-WorldHasKeys setting world event (Edited client kind number) made before = voided-WorldHasKeys setting world before
delivered-WorldHasKeys setting world event (Delivered request reply) made before = voided-WorldHasKeys setting world before

-- a request that is waited for
is_awaited-true : (outstanding : Option ℕ) (event : ℕ) → is_awaited outstanding event ≡ true → outstanding ≡ Some event
is_awaited-true None event is = absurd (false≢true is)
is_awaited-true (Some other) event is = ap Some (eqb-true other event is)

by_awaited : (setting : Setting) (world : World) (client : ℕ) (effect : Option Effect) (awaited : Bool)
    → (awaited ≡ true → MayHaveKeys setting world.history world.outcomes effect) → WorldHasKeys setting world
    → WorldHasKeys setting (cond awaited (affected world client effect) (record world { outcomes = Void ∷ world.outcomes }))
by_awaited setting world client effect true has before = affected-WorldHasKeys setting world client effect (has refl) before
by_awaited setting world client effect false has before = voided-WorldHasKeys setting world before

-- a reply that says what is so reaches its client
replied-WorldHasKeys : (setting : Setting) (world : World) (event : ℕ) (reply : Reply Content) (outcome : EventOutcome)
    → outcome_at world.outcomes event ≡ outcome
    → ((place version : ℕ) → answer_in reply.verdict place ≡ Some (Success version) → IsStored world.history world.outcomes event place version)
    → Each (IsGiven setting world.history) (writes_in reply.verdict)
    → WorldHasKeys setting world → WorldHasKeys setting (replied world event reply outcome)
replied-WorldHasKeys setting world event reply (Requested client request) made stored given before =
    by_awaited setting world client (answer_effect request reply (client_at world.clients client)) (is_awaited (client_at world.clients client).outstanding event)
    (λ waits. answer_effect-HasKeys setting world.history world.outcomes event request reply (client_at world.clients client) before.history
    (is_awaited-true (client_at world.clients client).outstanding event waits)
    (ap (λ (outcome : EventOutcome). entries_sent outcome) made)
    stored given (before.clients (client - 1))) before
replied-WorldHasKeys setting world event reply Void made stored given before = voided-WorldHasKeys setting world before
replied-WorldHasKeys setting world event reply Done made stored given before = voided-WorldHasKeys setting world before
replied-WorldHasKeys setting world event reply (Edited client kind number) made stored given before = voided-WorldHasKeys setting world before
replied-WorldHasKeys setting world event reply (Delivered other others) made stored given before = voided-WorldHasKeys setting world before

answered-WorldHasKeys : (setting : Setting) (world : World) (delivery : ℕ) (outcome : EventOutcome) → outcome_at world.outcomes delivery ≡ outcome
    → DeliveriesAreTrue world → WorldHasKeys setting world → WorldHasKeys setting (answered world outcome)
answered-WorldHasKeys setting world delivery (Delivered request reply) gave true_of before =
    replied-WorldHasKeys setting world request reply (outcome_at world.outcomes request) refl
    (λ place version is. true_of.says_true delivery request place version
    (subst (λ (outcome : EventOutcome). Stores outcome request place version) (sym gave) (refl, is)))
    (subst (λ (outcome : EventOutcome). Each (IsGiven setting world.history) (writes_given outcome)) gave (before.gives delivery)) before
answered-WorldHasKeys setting world delivery Void gave true_of before = voided-WorldHasKeys setting world before
answered-WorldHasKeys setting world delivery Done gave true_of before = voided-WorldHasKeys setting world before
answered-WorldHasKeys setting world delivery (Edited client kind number) gave true_of before = voided-WorldHasKeys setting world before
answered-WorldHasKeys setting world delivery (Requested client request) gave true_of before = voided-WorldHasKeys setting world before

-- each event keeps the profile's keys
pub stepped-WorldHasKeys : (setting : Setting) (event : Event) (world : World) → DeliveriesAreTrue world → WorldHasKeys setting world
    → WorldHasKeys setting (stepped setting event world)
unfolding stepped
stepped-WorldHasKeys setting (Edit client edit) world true_of before =
    acted-WorldHasKeys setting world client _ (change_effect-HasKeys setting world.history world.outcomes client edit) before
stepped-WorldHasKeys setting (Cut client kept edit) world true_of before =
    acted-WorldHasKeys setting world client _ (cut_effect-HasKeys setting world.history world.outcomes client kept edit) before
stepped-WorldHasKeys setting (Turn client kind) world true_of before =
    acted-WorldHasKeys setting world client _ (turn_effect-HasKeys setting world.history world.outcomes kind) before
stepped-WorldHasKeys setting (Gather client kind) world true_of before =
    acted-WorldHasKeys setting world client _ (λ at has. gather_effect-HasKeys setting world.history world.outcomes client kind at before.history has) before
stepped-WorldHasKeys setting (Post client kind) world true_of before =
    acted-WorldHasKeys setting world client _ (post_effect-HasKeys setting world.history world.outcomes kind) before
stepped-WorldHasKeys setting (Ask client) world true_of before =
    acted-WorldHasKeys setting world client _ (ask_effect-HasKeys setting world.history world.outcomes client) before
stepped-WorldHasKeys setting (Offer client) world true_of before =
    acted-WorldHasKeys setting world client _ (offer_effect-HasKeys setting world.history world.outcomes client) before
stepped-WorldHasKeys setting (Lose client) world true_of before =
    acted-WorldHasKeys setting world client _ (lose_effect-HasKeys setting world.history world.outcomes) before
stepped-WorldHasKeys setting (Crash client) world true_of before =
    acted-WorldHasKeys setting world client _ (crash_effect-HasKeys setting world.history world.outcomes) before
stepped-WorldHasKeys setting (Deliver event) world true_of before =
    delivered-WorldHasKeys setting world event (outcome_at world.outcomes event) refl before
stepped-WorldHasKeys setting (Answer event) world true_of before =
    answered-WorldHasKeys setting world event (outcome_at world.outcomes event) refl true_of before
stepped-WorldHasKeys setting (SetPass client pass) world true_of before =
    acted-WorldHasKeys setting world client _ (set_pass_effect-HasKeys setting world.history world.outcomes client (pass_at world.passes pass)) before
stepped-WorldHasKeys setting (GivePass client pass) world true_of before =
    acted-WorldHasKeys setting world client _ (give_pass_effect-HasKeys setting world.history world.outcomes (pass_at world.passes pass)) before

run-WorldHasKeys : (setting : Setting) (world : World) (events : List Event) → DeliveriesAreTrue world → WorldHasKeys setting world
    → WorldHasKeys setting (run setting world events)
unfolding run
run-WorldHasKeys setting world [] true_of before = before
run-WorldHasKeys setting world (event ∷ events) true_of before =
    run-WorldHasKeys setting (stepped setting event world) events (stepped-DeliveriesAreTrue setting event world true_of)
    (stepped-WorldHasKeys setting event world true_of before)

new_client_at : (clients place : ℕ) → slice_index_or (replicate clients new_client) place new_client ≡ new_client
new_client_at zero place = refl
new_client_at (suc clients) zero = refl
new_client_at (suc clients) (suc place) = new_client_at clients place

-- before any event there is no key
opening-WorldHasKeys : (setting : Setting) (clients seed : ℕ) (passes : List (List ℕ)) → WorldHasKeys setting (opening clients seed passes)
unfolding outcome_at
opening-WorldHasKeys setting clients seed passes = record {
  history = record { entities = tt; newest = refl; locks = tt; grows = λ version. refl; own_locks = λ version. refl };
  requests = λ event. tt;
  gives = λ event. tt;
  clients = λ place. subst (λ (client : Client). HasKeys setting [] [] client) (sym (new_client_at clients place)) (new_client-HasKeys setting [] []);
}

-- the world of a schedule keeps the profile's keys
world_of-WorldHasKeys : (setting : Setting) (schedule : Schedule) → WorldHasKeys setting (run setting (opening schedule.clients schedule.seed schedule.passes) schedule.events)
world_of-WorldHasKeys setting schedule =
    run-WorldHasKeys setting (opening schedule.clients schedule.seed schedule.passes) schedule.events (opening-DeliveriesAreTrue schedule.clients schedule.seed schedule.passes)
    (opening-WorldHasKeys setting schedule.clients schedule.seed schedule.passes)

-- no key that seals a write is ever lost from the profile's keys
pub world_of-NoLockIsLost : NoLockIsLost
world_of-NoLockIsLost setting valid schedule = (world_of-WorldHasKeys setting schedule).history.locks

-- a client that knows the newest write of the profile's keys has each key that seals a write
current_client : (setting : Setting) (history : List (Entry Content)) (outcomes : List EventOutcome) (client : Client) → HistoryHasKeys setting history
    → HasKeys setting history outcomes client
    → (state_at client.nigori.states (nigori_hash setting)).known ≡ last_version history (profile_key setting)
    → HaveNames setting client.bag (locks_of history)
current_client setting history outcomes client kept has knows =
    let state : KeyState = state_at client.nigori.states (nigori_hash setting)
    in let newest : keys_in state.base ≡ newest_keys history
    = ap keys_in has.state.known.is ∙ ap (λ (version : ℕ). keys_in (profile_at history version)) knows ∙ sym kept.newest
    in has_names-through (names_of setting client.bag) (names_of setting (newest_keys history)) (locks_of history)
    (subst (λ (keys : List NigoriKey). HaveNames setting client.bag (names_of setting keys)) newest has.state.had)
    (locks_in_newest setting history kept.locks)

pub world_of-EveryCurrentClientHasTheKeys : EveryCurrentClientHasTheKeys
world_of-EveryCurrentClientHasTheKeys setting valid schedule client knows =
    let world : World = run setting (opening schedule.clients schedule.seed schedule.passes) schedule.events
    in let has = world_of-WorldHasKeys setting schedule
    in current_client setting world.history world.outcomes (client_at world.clients client) has.history (has.clients (client - 1)) knows
