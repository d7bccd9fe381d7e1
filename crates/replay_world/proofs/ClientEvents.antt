-- What an event of one client makes of a world.
use Rattle.std.proofs.Common.{◌≡◌, ℕ, zero, suc, ◌-◌, ◌<◌, arith, Bool, true, false, cond, List, [], ◌∷◌, length, get_or, set, Option, Some, None, refl, sym, ap, subst, ◌∙◌}
use Rattle.std.proofs.lemmas.Bool.{or_parts}
use Rattle.std.proofs.lemmas.List.{get_or_read, set-get_or, length-set}
use Rattle.std.specs.Prelude.{is_some, ◌||◌, ◌==◌}
use Rattle.client_tags.specs.declared.Kind.{Kind}
use Rattle.client_tags.specs.declared.Kind.TheVariants.{Nigori}
use Rattle.sync_values.specs.declared.edit.Edit.{Edit}
use Rattle.sync_model.specs.declared.event.EventOutcome.{EventOutcome}
use Rattle.sync_model.specs.declared.event.EventOutcome.TheVariants.{Void, Done, Edited, Requested, Delivered}
use Rattle.sync_model.specs.declared.fate.Settlement.{Settlement}
use Rattle.sync_model.specs.declared.message.Content.{Content}
use Rattle.sync_model.specs.declared.message.Entry.{Entry}
use Rattle.sync_model.specs.declared.message.Reply.{Reply}
use Rattle.sync_model.specs.declared.message.Request.{Request}
use Rattle.sync_model.specs.declared.message.Task.{Task}
use Rattle.sync_model.specs.Changes.{edit_refusal, edit_taken, edit_effect, change_effect}
use Rattle.sync_model.specs.Clients.{Client, Effect, new_client, side_of, plain_effect}
use Rattle.sync_model.specs.Edits.{edit_kind}
use Rattle.sync_model.specs.Values.{same_kind}
use Rattle.sync_model.specs.Receiving.{answer_effect, post_effect, post_effect_at, turn_effect, turn_effect_at}
use Rattle.sync_model.specs.Sending.{is_gather_void, gathering, gather_effect, ask_of, ask_effect, commit_of, offer_effect, is_busy, has_letter}
use Rattle.sync_model.specs.Settings.{Setting}
use Rattle.sync_model.specs.Sides.{Side}
use Rattle.sync_model.specs.Worlds.{World, client_at, with_client_at, affected, acted}
use Rattle.replay_client.specs.Happenings.{Happens, HappensAlone}
use Rattle.replay_client.specs.Withdrawn.{withdrawn}
use Rattle.replay_world.specs.declared.happened.Happened.{Happened}
use Rattle.replay_world.specs.Asked.{IsQuietOutcome, IsSent, taken_back}
use Rattle.replay_world.specs.Events.{IsNumber}
use Rattle.replay_world.specs.Outcomes.{outcome_of, IsQuiet, IsKept, IsOfClient}
use Rattle.replay_world.specs.Steps.{world_with, Acts, Asks}

-- a client at a place that is there
with_client_at-set : (clients : List Client) (place : ℕ) (client : Client) → place < length clients → with_client_at clients place client ≡ set clients place client
with_client_at-set [] place client lt = absurd (omega arith)
with_client_at-set (other ∷ others) zero client lt = refl
with_client_at-set (other ∷ others) (suc place) client lt = ap (λ (rest : List Client). other ∷ rest) (with_client_at-set others place client (omega (arith, lt)))

-- the client of a number, as it is found
pub client_found : (clients : List Client) (number : ℕ) (client : Client) → IsNumber (length clients) number → client ≡ get_or clients (number - 1) client → client ≡ client_at clients number
client_found clients number client is found = get_or_read clients (number - 1) client (omega (arith, is.from_one, is.within)) found new_client

-- clients of which one is as it was
pub same_clients : (clients : List Client) (place : ℕ) (client new : Client) → client ≡ get_or clients place client → new ≡ client → set clients place new ≡ clients
same_clients clients place client new found is = ap (set clients place) (is ∙ found) ∙ set-get_or clients place client

-- an event of a client changes the world by its effect
pub affected_is : (seed : ℕ) (history : List (Entry Content)) (outcomes : List EventOutcome) (before : List Client) (settled_before settled : List Settlement) (number : ℕ) (effect : Option Effect) (outcome : EventOutcome) (client new : Client)
    → number - 1 < length before → client ≡ get_or before (number - 1) client → Happens number effect outcome client new settled_before settled
    → affected (world_with seed history outcomes before settled_before) number effect ≡ world_with seed history (outcome ∷ outcomes) (set before (number - 1) new) settled
unfolding affected Happens
affected_is seed history outcomes before settled_before settled number None outcome client new lt found happens =
    λ i. world_with seed history (sym happens.0 i ∷ outcomes) (sym (same_clients before (number - 1) client new found happens.1) i) (sym happens.2 i)
affected_is seed history outcomes before settled_before settled number (Some effect) outcome client new lt found happens =
    λ i. world_with seed history (sym happens.0 i ∷ outcomes) ((with_client_at-set before (number - 1) effect.client lt ∙ ap (set before (number - 1)) (sym happens.1)) i) (sym happens.2 i)

-- an event of a client that is there
acted_is : (world : World) (number : ℕ) (event : Client → Option Effect) (client : Client) → 0 < number → client ≡ client_at world.clients number
    → acted world number event ≡ affected world number (event client)
acted_is world zero event client above is = absurd (omega (arith, above))
acted_is world (suc place) event client above is = ap (λ (at : Client). affected world (suc place) (event at)) (sym is)

-- an event of a client, from what it makes of that client
pub acts_is : (number : ℕ) (event : Client → Option Effect) (before : List Client) (settled_before settled : List Settlement) (outcome : EventOutcome) (client new : Client)
    → IsNumber (length before) number → client ≡ get_or before (number - 1) client → Happens number (event client) outcome client new settled_before settled
    → (seed : ℕ) (history : List (Entry Content)) (outcomes : List EventOutcome)
    → acted (world_with seed history outcomes before settled_before) number event ≡ world_with seed history (outcome ∷ outcomes) (set before (number - 1) new) settled
acts_is number event before settled_before settled outcome client new is found happens seed history outcomes =
    acted_is (world_with seed history outcomes before settled_before) number event client (omega (arith, is.from_one)) (client_found before number client is found)
    ∙ affected_is seed history outcomes before settled_before settled number (event client) outcome client new (omega (arith, is.from_one, is.within)) found happens

-- an event that made no message, as it is kept
pub acts_quietly : (number : ℕ) (event : Client → Option Effect) (before : List Client) (settled_before settled : List Settlement) (outcome : EventOutcome) (happened : Happened) (client new : Client)
    → IsNumber (length before) number → client ≡ get_or before (number - 1) client → Happens number (event client) outcome client new settled_before settled
    → IsQuiet happened → ((history : List (Entry Content)) (earlier : List EventOutcome) → outcome_of history earlier happened ≡ outcome)
    → Acts number event before (set before (number - 1) new) settled_before settled happened
acts_quietly number event before settled_before settled outcome happened client new is found happens quiet same = record {
  quiet = quiet;
  counted = length-set before (number - 1) new;
  acts = λ seed history outcomes. acts_is number event before settled_before settled outcome client new is found happens seed history outcomes
      ∙ ap (λ (first : EventOutcome). world_with seed history (first ∷ outcomes) (set before (number - 1) new) settled) (sym (same history outcomes));
}

-- an effect makes no message
abbrev IsQuietEffect : Option Effect → Type 0
IsQuietEffect None = Unit {0}
IsQuietEffect (Some effect) = IsQuietOutcome effect.outcome

quiet_outcome : (number : ℕ) (effect : Option Effect) (outcome : EventOutcome) (client new : Client) (settled_before settled : List Settlement)
    → IsQuietEffect effect → Happens number effect outcome client new settled_before settled → IsQuietOutcome outcome
unfolding Happens
quiet_outcome number None outcome client new settled_before settled quiet happens = subst IsQuietOutcome (sym happens.0) tt
quiet_outcome number (Some effect) outcome client new settled_before settled quiet happens = subst IsQuietOutcome (sym happens.0) quiet

unless : (test : Bool) (effect : Option Effect) → IsQuietEffect effect → IsQuietEffect (cond test None effect)
unless true effect quiet = tt
unless false effect quiet = quiet

pub quiet_change : (setting : Setting) (number : ℕ) (edit : Edit) (outcome : EventOutcome) (client new : Client) (settled_before settled : List Settlement)
    → Happens number (change_effect setting number edit client) outcome client new settled_before settled → IsQuietOutcome outcome
unfolding change_effect edit_effect
quiet_change setting number edit outcome client new settled_before settled happens =
    quiet_outcome number (change_effect setting number edit client) outcome client new settled_before settled (unless (same_kind (edit_kind edit) Nigori) (edit_effect setting number edit client)
    (unless (is_some (edit_refusal setting client edit)) (Some (edit_taken setting number edit client)) tt)) happens

quiet_turn_at : (setting : Setting) (client : Client) (kind : Kind) (side : Side) (tasks : List Task) → IsQuietEffect (turn_effect_at setting client kind side tasks)
quiet_turn_at setting client kind side [] = tt
quiet_turn_at setting client kind side (task ∷ tasks) = tt

pub quiet_turn : (setting : Setting) (number : ℕ) (kind : Kind) (outcome : EventOutcome) (client new : Client) (settled_before settled : List Settlement)
    → Happens number (turn_effect setting kind client) outcome client new settled_before settled → IsQuietOutcome outcome
unfolding turn_effect
quiet_turn setting number kind outcome client new settled_before settled happens =
    quiet_outcome number (turn_effect_at setting client kind (side_of client kind) (side_of client kind).mailbox) outcome client new settled_before settled
    (quiet_turn_at setting client kind (side_of client kind) (side_of client kind).mailbox) happens

pub quiet_gather : (setting : Setting) (number : ℕ) (kind : Kind) (outcome : EventOutcome) (client new : Client) → HappensAlone (gather_effect setting number kind client) outcome client new → IsQuietOutcome outcome
unfolding gather_effect
quiet_gather setting number kind outcome client new happens =
    quiet_outcome 0 (gather_effect setting number kind client) outcome client new [] []
    (unless (is_gather_void kind client) (Some (plain_effect (gathering setting number kind client (side_of client kind).pending) Done)) tt) (happens 0 [])

quiet_post_at : (setting : Setting) (client : Client) (kind : Kind) (side : Side) (letter : Option Task) → IsQuietEffect (post_effect_at setting client kind side letter)
quiet_post_at setting client kind side None = tt
quiet_post_at setting client kind side (Some task) = tt

pub quiet_post : (setting : Setting) (kind : Kind) (outcome : EventOutcome) (client new : Client) → HappensAlone (post_effect setting kind client) outcome client new → IsQuietOutcome outcome
unfolding post_effect
quiet_post setting kind outcome client new happens =
    quiet_outcome 0 (post_effect_at setting client kind (side_of client kind) (side_of client kind).letter) outcome client new [] []
    (quiet_post_at setting client kind (side_of client kind) (side_of client kind).letter) (happens 0 [])

pub quiet_answer : (request : Request Content) (reply : Reply Content) (outcome : EventOutcome) (client new : Client) → HappensAlone (answer_effect request reply client) outcome client new → IsQuietOutcome outcome
unfolding answer_effect
quiet_answer request reply outcome client new happens = quiet_outcome 0 _ outcome client new [] [] tt (happens 0 [])

-- an effect is the request of the client of a number, which can be taken back, or none
abbrev pub IsAsking : ℕ → Client → Option Effect → Type 0
IsAsking number client None = Unit {0}
IsAsking number client (Some effect) =
    (request : Request Content) × (effect.outcome ≡ Requested number request) × (withdrawn effect.client request.call ≡ client)

none_is : (event : Option ℕ) → is_some event ≡ false → None ≡ event
none_is None is = refl
none_is (Some event) is = cc

asking_unless : (number : ℕ) (client : Client) (test : Bool) (effect : Option Effect) → (test ≡ false → IsAsking number client effect) → IsAsking number client (cond test None effect)
asking_unless number client true effect asking = tt
asking_unless number client false effect asking = asking refl

pub ask_asks : (number event : ℕ) (client : Client) → IsAsking number client (ask_effect number event client)
unfolding ask_effect
ask_asks number event client =
    asking_unless number client (is_busy client) (Some (plain_effect (record client { outstanding = Some event }) (Requested number (ask_of client))))
    (λ free. (ask_of client, refl, λ i. record client { outstanding = none_is client.outstanding (or_parts (is_some client.outstanding) (has_letter client) free).0 i }))

pub offer_asks : (number event : ℕ) (client : Client) → IsAsking number client (offer_effect number event client)
unfolding offer_effect
offer_asks number event client =
    asking_unless number client (is_busy client || length client.held == 0) (Some (plain_effect (record client { held = []; outstanding = Some event }) (Requested number (commit_of client))))
    (λ free. (commit_of client, refl, λ i. record client { outstanding = none_is client.outstanding (or_parts (is_some client.outstanding) (has_letter client) (or_parts (is_busy client) (length client.held == 0) free).0).0 i }))

-- a client whose request could not be sent is as it was
pub back_is : (number : ℕ) (effect : Option Effect) (outcome : EventOutcome) (client new : Client) → IsAsking number client effect → HappensAlone effect outcome client new
    → taken_back new outcome ≡ client
unfolding Happens
back_is number None outcome client new asking happens = ap (taken_back new) (happens number []).0 ∙ (happens number []).1
back_is number (Some effect) outcome client new asking happens =
    ap (taken_back new) ((happens number []).0 ∙ asking.1) ∙ ap (λ (after : Client). withdrawn after asking.0.call) (happens number []).1 ∙ asking.2

-- what is kept of a request is what came of it
sent_is : (number : ℕ) (effect : Option Effect) (outcome : EventOutcome) (happened : Happened) (client new : Client) → IsAsking number client effect → HappensAlone effect outcome client new
    → IsSent number outcome happened → (history : List (Entry Content)) (outcomes : List EventOutcome) → outcome_of history outcomes happened ≡ outcome
unfolding Happens
sent_is number None outcome happened client new asking happens sent history outcomes =
    let void : IsSent number Void happened = subst (λ (came : EventOutcome). IsSent number came happened) (happens number []).0 sent in
    ap (outcome_of history outcomes) void ∙ sym (happens number []).0
sent_is number (Some effect) outcome happened client new asking happens sent history outcomes =
    let requested : IsSent number (Requested number asking.0) happened = subst (λ (came : EventOutcome). IsSent number came happened) ((happens number []).0 ∙ asking.1) sent in
    ap (outcome_of history outcomes) requested.1 ∙ sym ((happens number []).0 ∙ asking.1)

sent_kept : (number : ℕ) (outcome : EventOutcome) (happened : Happened) → IsSent number outcome happened → (history : List (Entry Content)) (outcomes : List EventOutcome) → IsKept history outcomes happened
sent_kept number (Requested client request) happened sent history outcomes = subst (IsKept history outcomes) (sym sent.1) sent.2
sent_kept number Void happened sent history outcomes = subst (IsKept history outcomes) (sym sent) tt
sent_kept number Done happened sent history outcomes = subst (IsKept history outcomes) (sym sent) tt
sent_kept number (Edited client kind edit) happened sent history outcomes = subst (IsKept history outcomes) (sym sent) tt
sent_kept number (Delivered request reply) happened sent history outcomes = subst (IsKept history outcomes) (sym sent) tt

sent_own : (clients number : ℕ) (outcome : EventOutcome) (happened : Happened) → IsNumber clients number → IsSent number outcome happened → IsOfClient clients happened
sent_own clients number (Requested client request) happened is sent = subst (IsOfClient clients) (sym sent.1) is
sent_own clients number Void happened is sent = subst (IsOfClient clients) (sym sent) tt
sent_own clients number Done happened is sent = subst (IsOfClient clients) (sym sent) tt
sent_own clients number (Edited client kind edit) happened is sent = subst (IsOfClient clients) (sym sent) tt
sent_own clients number (Delivered request reply) happened is sent = subst (IsOfClient clients) (sym sent) tt

-- an event that makes a request, as it is kept
pub asks_is : (number : ℕ) (event : Client → Option Effect) (before : List Client) (outcome : EventOutcome) (happened : Happened) (client asked new : Client)
    → IsNumber (length before) number → client ≡ get_or before (number - 1) client → HappensAlone (event client) outcome client asked → IsAsking number client (event client)
    → new ≡ asked → IsSent number outcome happened → Asks number event before (set before (number - 1) new) happened
asks_is number event before outcome happened client asked new is found happens asking same sent = record {
  kept = sent_kept number outcome happened sent;
  own = sent_own (length before) number outcome happened is sent;
  counted = length-set before (number - 1) new;
  acts = λ seed history outcomes settled. acts_is number event before settled settled outcome client asked is found (happens number settled) seed history outcomes
      ∙ (λ i. world_with seed history (sym (sent_is number (event client) outcome happened client asked asking happens sent history outcomes) i ∷ outcomes) (set before (number - 1) (sym same i)) settled);
}
