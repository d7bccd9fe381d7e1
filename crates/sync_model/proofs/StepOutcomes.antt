-- What comes of each event: a delivery of a request, or an outcome that is none; an acknowledgement is of the edit that the event makes.
use Rattle.std.proofs.Common.{◌≡◌, ℕ, zero, suc, ◌+◌, ◌⊎◌, Bool, true, false, cond, List, [], ◌∷◌, length, Option, Some, None, is_some, refl, ap, subst, sym, ◌∙◌, inl, inr, IfSome, eqb, arith, ◌<◌}
use Rattle.std.specs.Prelude.{⊤}
use Rattle.std.proofs.lemmas.Bool.{eqb-true, cond_both}
use Rattle.client_tags.specs.declared.Kind.{Kind}
use Rattle.client_tags.specs.declared.Kind.TheVariants.{Nigori}
use Rattle.sync_values.specs.declared.edit.Edit.{Edit as UserEdit}
use Rattle.sync_values.specs.declared.edit.Edit.TheVariants.{SetNigori}
use Rattle.sync_model.specs.declared.event.Event.{Event}
use Rattle.sync_model.specs.declared.event.Event.TheVariants.{Edit, Cut, Turn, Gather, Post, Ask, Offer, Lose, Crash, Deliver, Answer, SetPass, GivePass}
use Rattle.sync_model.specs.declared.event.EventOutcome.{EventOutcome}
use Rattle.sync_model.specs.declared.event.EventOutcome.TheVariants.{Void, Done, Edited, Requested, Delivered}
use Rattle.sync_model.specs.declared.message.Content.{Content}
use Rattle.sync_model.specs.declared.message.Entry.{Entry}
use Rattle.sync_model.specs.declared.message.Reply.{Reply}
use Rattle.sync_model.specs.declared.message.Request.{Request}
use Rattle.sync_model.specs.declared.message.Task.{Task}
use Rattle.sync_model.specs.Values.{same_kind}
use Rattle.sync_model.specs.Edits.{edit_kind}
use Rattle.sync_model.specs.Settings.{Setting}
use Rattle.sync_model.specs.Servers.{reply_to, history_served}
use Rattle.sync_model.specs.Sides.{Side}
use Rattle.sync_model.specs.Clients.{Client, Effect, side_of}
use Rattle.sync_model.specs.Changes.{edit_refusal, edit_taken, edit_effect, change_effect, cut_short, cut_effect, crash_effect, pass_value, set_pass_refusal, set_pass_effect, give_pass_refusal, give_pass_effect}
use Rattle.sync_model.specs.Sending.{is_gather_void, gather_effect, is_busy, ask_effect, offer_effect, lose_effect}
use Rattle.sync_model.specs.Receiving.{answer_effect, post_effect_at, post_effect, turn_effect_at, turn_effect}
use Rattle.sync_model.specs.Worlds.{World, client_at, pass_at, next_event, outcome_at, affected, acted, STORE_BIRTHDAY, is_invalid_entry, delivered, is_awaited, replied, answered, stepped}
use Rattle.sync_model.specs.Laws.{Stores, user_of, edit_by, last_outcome}
use Rattle.sync_model.proofs.FateSettlements.{last_is}

-- an event makes an edit of a type for the user of a client, under the number after the side's last one
pub record IsToldOf (setting : Setting) (event : Event) (world : World) (client : ℕ) (kind : Kind) (number : ℕ) : Type 0 where
  pub edit : UserEdit
  pub of_kind : edit_kind edit ≡ kind
  pub user : user_of event ≡ client
  pub makes : edit_by setting world event ≡ Some edit
  pub counts : number ≡ (side_of (client_at world.clients client) kind).last_edit + 1

-- what an outcome that is no delivery says of its event
abbrev pub IsOutcomeOf : Setting → Event → World → EventOutcome → Type 0
IsOutcomeOf setting event world (Edited client kind number) = IsToldOf setting event world client kind number
IsOutcomeOf setting event world (Delivered request reply) = ⊥
IsOutcomeOf setting event world Void = ⊤
IsOutcomeOf setting event world Done = ⊤
IsOutcomeOf setting event world (Requested client request) = ⊤

-- an event leaves the history, and what comes of it is no delivery
pub record IsUnserved (setting : Setting) (event : Event) (world next : World) : Type 0 where
  pub outcome : EventOutcome
  pub is : IsOutcomeOf setting event world outcome
  pub history : next.history ≡ world.history
  pub outcomes : next.outcomes ≡ outcome ∷ world.outcomes

-- a request is delivered
pub record IsServed (world next : World) : Type 0 where
  pub event : ℕ
  pub client : ℕ
  pub request : Request Content
  pub made : outcome_at world.outcomes event ≡ Requested client request
  pub history : next.history ≡ history_served is_invalid_entry STORE_BIRTHDAY world.history request
  pub outcomes : next.outcomes ≡ Delivered event (reply_to is_invalid_entry STORE_BIRTHDAY world.history request) ∷ world.outcomes

-- what comes of an effect
abbrev EffectIs : Setting → Event → World → Option Effect → Type 0
EffectIs setting event world effect = IfSome effect (λ made. IsOutcomeOf setting event world made.outcome)

void_unserved : (setting : Setting) (event : Event) (world : World) → IsUnserved setting event world (record world { outcomes = Void ∷ world.outcomes })
void_unserved setting event world = record { outcome = Void; is = tt; history = refl; outcomes = refl }

affected_unserved : (setting : Setting) (event : Event) (world : World) (number : ℕ) (effect : Option Effect) → EffectIs setting event world effect
    → IsUnserved setting event world (affected world number effect)
unfolding affected
affected_unserved setting event world number None is = void_unserved setting event world
affected_unserved setting event world number (Some effect) is = record { outcome = effect.outcome; is = is; history = refl; outcomes = refl }

acted_unserved : (setting : Setting) (event : Event) (world : World) (number : ℕ) (acts : Client → Option Effect)
    → EffectIs setting event world (acts (client_at world.clients number)) → IsUnserved setting event world (acted world number acts)
acted_unserved setting event world zero acts is = void_unserved setting event world
acted_unserved setting event world (suc place) acts is =
    affected_unserved setting event world (suc place) (acts (client_at world.clients (suc place))) is

-- an effect that a test makes void
unless_is : (setting : Setting) (event : Event) (world : World) (test : Bool) (effect : Effect) → IsOutcomeOf setting event world effect.outcome
    → EffectIs setting event world (cond test None (Some effect))
unless_is setting event world true effect is = tt
unless_is setting event world false effect is = is

when_is : (setting : Setting) (event : Event) (world : World) (test : Bool) (effect : Effect) → IsOutcomeOf setting event world effect.outcome
    → EffectIs setting event world (cond test (Some effect) None)
when_is setting event world true effect is = is
when_is setting event world false effect is = tt

void_is : (setting : Setting) (event : Event) (world : World) (test : Bool) (effect : Option Effect) → EffectIs setting event world effect
    → EffectIs setting event world (cond test None effect)
void_is setting event world true effect is = tt
void_is setting event world false effect is = is

-- edits
change_is : (setting : Setting) (number : ℕ) (edit : UserEdit) (world : World)
    → EffectIs setting (Edit number edit) world (change_effect setting number edit (client_at world.clients number))
unfolding change_effect edit_effect
change_is setting number edit world =
    void_is setting (Edit number edit) world (same_kind (edit_kind edit) Nigori) _
    (unless_is setting (Edit number edit) world (is_some (edit_refusal setting (client_at world.clients number) edit))
    (edit_taken setting number edit (client_at world.clients number))
    record { edit = edit; of_kind = refl; user = refl; makes = refl; counts = refl })

cut_short_is : (setting : Setting) (event : Event) (world : World) (kept : Bool) (client : Client) (effect : Option Effect)
    → EffectIs setting event world (cut_short kept client effect)
cut_short_is setting event world kept client None = tt
cut_short_is setting event world true client (Some effect) = tt
cut_short_is setting event world false client (Some effect) = tt

cut_is : (setting : Setting) (event : Event) (world : World) (number : ℕ) (kept : Bool) (edit : UserEdit) (client : Client)
    → EffectIs setting event world (cut_effect setting number kept edit client)
unfolding cut_effect
cut_is setting event world number kept edit client = cut_short_is setting event world kept client (change_effect setting number edit client)

set_pass_is : (setting : Setting) (number pass : ℕ) (world : World)
    → EffectIs setting (SetPass number pass) world (set_pass_effect setting setting.pass_kind number (pass_at world.passes pass) (client_at world.clients number))
unfolding set_pass_effect
set_pass_is setting number pass world =
    unless_is setting (SetPass number pass) world (is_some (set_pass_refusal setting setting.pass_kind (pass_at world.passes pass) (client_at world.clients number))) _
    record {
      edit = SetNigori (pass_value setting setting.pass_kind (client_at world.clients number).bag (pass_at world.passes pass));
      of_kind = refl;
      user = refl;
      makes = refl;
      counts = refl;
    }

-- all else that a client does
crash_is : (setting : Setting) (event : Event) (world : World) (client : Client) → EffectIs setting event world (crash_effect client)
unfolding crash_effect
crash_is setting event world client = tt

give_pass_is : (setting : Setting) (event : Event) (world : World) (pass : List ℕ) (client : Client) → EffectIs setting event world (give_pass_effect setting pass client)
unfolding give_pass_effect
give_pass_is setting event world pass client = unless_is setting event world (is_some (give_pass_refusal setting pass client)) _ tt

gather_is : (setting : Setting) (event : Event) (world : World) (number : ℕ) (kind : Kind) (client : Client) → EffectIs setting event world (gather_effect setting number kind client)
unfolding gather_effect
gather_is setting event world number kind client = unless_is setting event world (is_gather_void kind client) _ tt

ask_is : (setting : Setting) (event : Event) (world : World) (number next : ℕ) (client : Client) → EffectIs setting event world (ask_effect number next client)
unfolding ask_effect
ask_is setting event world number next client = unless_is setting event world (is_busy client) _ tt

offer_is : (setting : Setting) (event : Event) (world : World) (number next : ℕ) (client : Client) → EffectIs setting event world (offer_effect number next client)
unfolding offer_effect
offer_is setting event world number next client = unless_is setting event world _ _ tt

lose_is : (setting : Setting) (event : Event) (world : World) (client : Client) → EffectIs setting event world (lose_effect client)
unfolding lose_effect
lose_is setting event world client = when_is setting event world (is_some client.outstanding) _ tt

post_at_is : (setting : Setting) (event : Event) (world : World) (client : Client) (kind : Kind) (side : Side) (letter : Option Task)
    → EffectIs setting event world (post_effect_at setting client kind side letter)
post_at_is setting event world client kind side None = tt
post_at_is setting event world client kind side (Some task) = tt

post_is : (setting : Setting) (event : Event) (world : World) (kind : Kind) (client : Client) → EffectIs setting event world (post_effect setting kind client)
unfolding post_effect
post_is setting event world kind client = post_at_is setting event world client kind (side_of client kind) (side_of client kind).letter

turn_at_is : (setting : Setting) (event : Event) (world : World) (client : Client) (kind : Kind) (side : Side) (tasks : List Task)
    → EffectIs setting event world (turn_effect_at setting client kind side tasks)
turn_at_is setting event world client kind side [] = tt
turn_at_is setting event world client kind side (task ∷ tasks) = tt

turn_is : (setting : Setting) (event : Event) (world : World) (kind : Kind) (client : Client) → EffectIs setting event world (turn_effect setting kind client)
unfolding turn_effect
turn_is setting event world kind client = turn_at_is setting event world client kind (side_of client kind) (side_of client kind).mailbox

answer_is : (setting : Setting) (event : Event) (world : World) (request : Request Content) (reply : Reply Content) (client : Client)
    → EffectIs setting event world (answer_effect request reply client)
unfolding answer_effect
answer_is setting event world request reply client = tt

-- a reply that reaches its client
awaited_unserved : (setting : Setting) (event : Event) (world : World) (number : ℕ) (effect : Option Effect) (awaited : Bool) → EffectIs setting event world effect
    → IsUnserved setting event world (cond awaited (affected world number effect) (record world { outcomes = Void ∷ world.outcomes }))
awaited_unserved setting event world number effect true is = affected_unserved setting event world number effect is
awaited_unserved setting event world number effect false is = void_unserved setting event world

replied_unserved : (setting : Setting) (event : Event) (world : World) (request : ℕ) (reply : Reply Content) (outcome : EventOutcome)
    → IsUnserved setting event world (replied world request reply outcome)
replied_unserved setting event world request reply (Requested client asked) =
    awaited_unserved setting event world client (answer_effect asked reply (client_at world.clients client))
    (is_awaited (client_at world.clients client).outstanding request) (answer_is setting event world asked reply (client_at world.clients client))
replied_unserved setting event world request reply Void = void_unserved setting event world
replied_unserved setting event world request reply Done = void_unserved setting event world
replied_unserved setting event world request reply (Edited client kind number) = void_unserved setting event world
replied_unserved setting event world request reply (Delivered other others) = void_unserved setting event world

answered_unserved : (setting : Setting) (event : Event) (world : World) (outcome : EventOutcome)
    → IsUnserved setting event world (answered world outcome)
answered_unserved setting event world (Delivered request reply) =
    replied_unserved setting event world request reply (outcome_at world.outcomes request)
answered_unserved setting event world Void = void_unserved setting event world
answered_unserved setting event world Done = void_unserved setting event world
answered_unserved setting event world (Edited client kind number) = void_unserved setting event world
answered_unserved setting event world (Requested client request) = void_unserved setting event world

-- a request that reaches the server
delivered_served : (setting : Setting) (event : Event) (world : World) (request : ℕ) (outcome : EventOutcome) → outcome_at world.outcomes request ≡ outcome
    → IsUnserved setting event world (delivered world request outcome) ⊎ IsServed world (delivered world request outcome)
delivered_served setting event world request (Requested client asked) made =
    inr record { event = request; client = client; request = asked; made = made; history = refl; outcomes = refl }
delivered_served setting event world request Void made = inl (void_unserved setting event world)
delivered_served setting event world request Done made = inl (void_unserved setting event world)
delivered_served setting event world request (Edited client kind number) made = inl (void_unserved setting event world)
delivered_served setting event world request (Delivered other reply) made = inl (void_unserved setting event world)

-- what comes of each event
pub stepped_served : (setting : Setting) (event : Event) (world : World)
    → IsUnserved setting event world (stepped setting event world) ⊎ IsServed world (stepped setting event world)
unfolding stepped
stepped_served setting (Edit number edit) world =
    inl (acted_unserved setting (Edit number edit) world number (change_effect setting number edit) (change_is setting number edit world))
stepped_served setting (Cut number kept edit) world =
    inl (acted_unserved setting (Cut number kept edit) world number _ (cut_is setting (Cut number kept edit) world number kept edit (client_at world.clients number)))
stepped_served setting (Turn number kind) world =
    inl (acted_unserved setting (Turn number kind) world number _ (turn_is setting (Turn number kind) world kind (client_at world.clients number)))
stepped_served setting (Gather number kind) world =
    inl (acted_unserved setting (Gather number kind) world number _ (gather_is setting (Gather number kind) world number kind (client_at world.clients number)))
stepped_served setting (Post number kind) world =
    inl (acted_unserved setting (Post number kind) world number _ (post_is setting (Post number kind) world kind (client_at world.clients number)))
stepped_served setting (Ask number) world =
    inl (acted_unserved setting (Ask number) world number _ (ask_is setting (Ask number) world number (next_event world) (client_at world.clients number)))
stepped_served setting (Offer number) world =
    inl (acted_unserved setting (Offer number) world number _ (offer_is setting (Offer number) world number (next_event world) (client_at world.clients number)))
stepped_served setting (Lose number) world =
    inl (acted_unserved setting (Lose number) world number _ (lose_is setting (Lose number) world (client_at world.clients number)))
stepped_served setting (Crash number) world =
    inl (acted_unserved setting (Crash number) world number _ (crash_is setting (Crash number) world (client_at world.clients number)))
stepped_served setting (Deliver request) world = delivered_served setting (Deliver request) world request (outcome_at world.outcomes request) refl
stepped_served setting (Answer delivery) world = inl (answered_unserved setting (Answer delivery) world (outcome_at world.outcomes delivery))
stepped_served setting (SetPass number pass) world =
    inl (acted_unserved setting (SetPass number pass) world number (set_pass_effect setting setting.pass_kind number (pass_at world.passes pass)) (set_pass_is setting number pass world))
stepped_served setting (GivePass number pass) world =
    inl (acted_unserved setting (GivePass number pass) world number _
    (give_pass_is setting (GivePass number pass) world (pass_at world.passes pass) (client_at world.clients number)))

-- an event that has not come has made nothing
later_by : (outcome : EventOutcome) (outcomes : List EventOutcome) (event : ℕ) (here : Bool) → eqb event (length outcomes + 1) ≡ here
    → suc (length outcomes) < event → outcome_at outcomes event ≡ Void → cond here outcome (outcome_at outcomes event) ≡ Void
later_by outcome outcomes event true at late is =
    let place = eqb-true event (length outcomes + 1) at in absurd (omega (arith, place, late))
later_by outcome outcomes event false at late is = is

pub later_outcome : (outcomes : List EventOutcome) (event : ℕ) → length outcomes < event → outcome_at outcomes event ≡ Void
unfolding outcome_at
later_outcome [] event late = refl
later_outcome (outcome ∷ outcomes) event late =
    later_by outcome outcomes event (eqb event (length outcomes + 1)) refl late (later_outcome outcomes event (omega (arith, late)))

kept_by : (P : EventOutcome → Type 0) (outcome : EventOutcome) (outcomes : List EventOutcome) (event : ℕ) (here : Bool)
    → (P Void → ⊥) → eqb event (length outcomes + 1) ≡ here → P (outcome_at outcomes event) → P (cond here outcome (outcome_at outcomes event))
kept_by P outcome outcomes event true none at is =
    let number = eqb-true event (length outcomes + 1) at
    in absurd (none (subst P (later_outcome outcomes event (omega (arith, number))) is))
kept_by P outcome outcomes event false none at is = is

-- what holds of an outcome, and not of a void one, still does after a further outcome
pub outcome-kept : (P : EventOutcome → Type 0) (outcome : EventOutcome) (outcomes : List EventOutcome) (event : ℕ)
    → (P Void → ⊥) → P (outcome_at outcomes event) → P (outcome_at (outcome ∷ outcomes) event)
unfolding outcome_at
outcome-kept P outcome outcomes event none is = kept_by P outcome outcomes event (eqb event (length outcomes + 1)) none refl is

last_or_by : (P : EventOutcome → Type 0) (outcome : EventOutcome) (outcomes : List EventOutcome) (event : ℕ) (here : Bool)
    → P (cond here outcome (outcome_at outcomes event)) → P outcome ⊎ P (outcome_at outcomes event)
last_or_by P outcome outcomes event true is = inl is
last_or_by P outcome outcomes event false is = inr is

-- an outcome is the last one, or an earlier one
pub last_or_earlier : (P : EventOutcome → Type 0) (outcome : EventOutcome) (outcomes : List EventOutcome) (event : ℕ)
    → P (outcome_at (outcome ∷ outcomes) event) → P outcome ⊎ P (outcome_at outcomes event)
unfolding outcome_at
last_or_earlier P outcome outcomes event is = last_or_by P outcome outcomes event (eqb event (length outcomes + 1)) is

-- what is so of the last outcome and of the others is so of each
pub each_outcome : (P : EventOutcome → Type 0) (outcome : EventOutcome) (outcomes : List EventOutcome) → P outcome
    → ((event : ℕ) → P (outcome_at outcomes event)) → (event : ℕ) → P (outcome_at (outcome ∷ outcomes) event)
unfolding outcome_at
each_outcome P outcome outcomes last before event =
    cond_both (eqb event (length outcomes + 1)) outcome (outcome_at outcomes event) P (λ here. last) (λ there. before event)

-- the outcome that joins a log is the last one
pub last_is_outcome : (world next : World) (outcome : EventOutcome) → next.outcomes ≡ outcome ∷ world.outcomes → last_outcome next ≡ outcome
last_is_outcome world next outcome is =
    ap (λ (outcomes : List EventOutcome). outcome_at outcomes (length outcomes)) is ∙ last_is world.outcomes outcome

-- each event has one outcome more, which is the last
pub stepped_outcomes : (setting : Setting) (event : Event) (world : World)
    → (stepped setting event world).outcomes ≡ last_outcome (stepped setting event world) ∷ world.outcomes
stepped_outcomes setting event world = by (stepped_served setting event world)
  where
    from : (outcome : EventOutcome) → (stepped setting event world).outcomes ≡ outcome ∷ world.outcomes
        → (stepped setting event world).outcomes ≡ last_outcome (stepped setting event world) ∷ world.outcomes
    from outcome is = is ∙ ap (λ (last : EventOutcome). last ∷ world.outcomes) (sym (last_is_outcome world (stepped setting event world) outcome is))

    by : IsUnserved setting event world (stepped setting event world) ⊎ IsServed world (stepped setting event world)
        → (stepped setting event world).outcomes ≡ last_outcome (stepped setting event world) ∷ world.outcomes
    by (inl unserved) = from unserved.outcome unserved.outcomes
    by (inr served) = from (Delivered served.event (reply_to is_invalid_entry STORE_BIRTHDAY world.history served.request)) served.outcomes

-- what holds once an outcome joins that is no delivery, and once a request is delivered, holds after each event
pub stepped_keeps : (P : List (Entry Content) → List EventOutcome → Type 0) (setting : Setting) (event : Event) (world : World)
    → ((outcome : EventOutcome) → IsOutcomeOf setting event world outcome → P world.history (outcome ∷ world.outcomes))
    → ((request client : ℕ) (asked : Request Content) → outcome_at world.outcomes request ≡ Requested client asked
    → P (history_served is_invalid_entry STORE_BIRTHDAY world.history asked)
    (Delivered request (reply_to is_invalid_entry STORE_BIRTHDAY world.history asked) ∷ world.outcomes))
    → P (stepped setting event world).history (stepped setting event world).outcomes
stepped_keeps P setting event world plain served = by (stepped_served setting event world)
  where
    same : (history : List (Entry Content)) (outcomes : List EventOutcome) → (stepped setting event world).history ≡ history
        → (stepped setting event world).outcomes ≡ outcomes → P history outcomes
        → P (stepped setting event world).history (stepped setting event world).outcomes
    same history outcomes is are holds =
        subst (λ (found : List (Entry Content)). P found (stepped setting event world).outcomes) (sym is)
        (subst (λ (found : List EventOutcome). P history found) (sym are) holds)

    by : IsUnserved setting event world (stepped setting event world) ⊎ IsServed world (stepped setting event world)
        → P (stepped setting event world).history (stepped setting event world).outcomes
    by (inl made) = same world.history (made.outcome ∷ world.outcomes) made.history made.outcomes (plain made.outcome made.is)
    by (inr given) = same (history_served is_invalid_entry STORE_BIRTHDAY world.history given.request)
        (Delivered given.event (reply_to is_invalid_entry STORE_BIRTHDAY world.history given.request) ∷ world.outcomes)
        given.history given.outcomes (served given.event given.client given.request given.made)

-- an outcome that is no delivery stores nothing
pub no_store : (setting : Setting) (event : Event) (world : World) (outcome : EventOutcome) → IsOutcomeOf setting event world outcome
    → (request place version : ℕ) → Stores outcome request place version → ⊥
no_store setting event world Void is request place version stores = stores
no_store setting event world Done is request place version stores = stores
no_store setting event world (Edited client kind number) is request place version stores = stores
no_store setting event world (Requested client asked) is request place version stores = stores
no_store setting event world (Delivered asked reply) is request place version stores = is
