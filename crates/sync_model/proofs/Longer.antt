-- Each fact of a world stays so under a further write, and under a further outcome.
use Rattle.std.proofs.Common.{◌≡◌, ℕ, suc, ◌+◌, ◌<◌, ◌≤◌, Bool, true, false, cond, List, [], ◌∷◌, length, refl, sym, subst, ◌∙◌, eqb, arith, inl, inr, le_trans}
use Rattle.std.specs.List.{AllByRecursion}
use Rattle.std.proofs.lemmas.Bool.{eqb-true, ne_eqb, cond-false}
use Rattle.std.proofs.lemmas.Option.{IfSome_then}
use Rattle.client_tags.specs.declared.Kind.{Kind}
use Rattle.sync_model.specs.declared.event.EventOutcome.{EventOutcome}
use Rattle.sync_model.specs.declared.event.EventOutcome.TheVariants.{Void, Done, Edited, Requested, Delivered}
use Rattle.sync_model.specs.declared.message.Batch.{Batch}
use Rattle.sync_model.specs.declared.message.Call.{Call}
use Rattle.sync_model.specs.declared.message.Content.{Content}
use Rattle.sync_model.specs.declared.message.Entry.{Entry}
use Rattle.sync_model.specs.declared.message.Key.{Key}
use Rattle.sync_model.specs.declared.message.Reply.{Reply}
use Rattle.sync_model.specs.declared.message.Request.{Request}
use Rattle.sync_model.specs.declared.message.Task.{Task}
use Rattle.sync_model.specs.declared.message.Task.TheVariants.{Batch as Updating, Acks}
use Rattle.sync_model.specs.declared.state.KeyState.{KeyState}
use Rattle.sync_model.specs.History.{last_version}
use Rattle.sync_model.specs.Sides.{Side, state_at}
use Rattle.sync_model.specs.Clients.{Client, side_of}
use Rattle.sync_model.specs.Worlds.{outcome_at}
use Rattle.sync_model.specs.Facts.{key_of, IsKnown, KeyFacts, HasUpdate, IsWhole, IsTrueTask, mark_after, AreChained, SideFacts, asked_mark, IsTrueReply, IsTrueOutcome, ClientFacts}
use Rattle.sync_model.proofs.Writes.{IsWriteOf-longer, last_version-longer}

-- what holds of each item still does where something weaker is asked
pub all_then : {X : Type 0} {P Q : X → Type 0} → ((x : X) → P x → Q x) → (xs : List X) → AllByRecursion P xs → AllByRecursion Q xs
all_then then [] all = tt
all_then then (x ∷ xs) all = (then x all.0, all_then then xs all.1)

IsKnown-longer : (history : List (Entry Content)) (next : Entry Content) (key : Key) (state : KeyState)
    → IsKnown history key state → IsKnown (next ∷ history) key state
IsKnown-longer history next key state (inl nothing) = inl nothing
IsKnown-longer history next key state (inr is) = inr (IsWriteOf-longer history next key state.known state.base is)

KeyFacts-longer : (history : List (Entry Content)) (next : Entry Content) (key : Key) (mark : ℕ) (state : KeyState)
    → mark ≤ length history → KeyFacts history key mark state → KeyFacts (next ∷ history) key mark state
KeyFacts-longer history next key mark state within facts = record {
  is_known = IsKnown-longer history next key state facts.is_known;
  shown = facts.shown;
  passed = λ le.
      let same : last_version (next ∷ history) key ≡ last_version history key = last_version-longer history next key (le_trans le within) in
      subst (λ version. version ≤ state.known) (sym same) (facts.passed (subst (λ version. version ≤ mark) same le));
}

IsWhole-longer : (history : List (Entry Content)) (next : Entry Content) (kind : Kind) (from : ℕ) (batch : Batch)
    → IsWhole history kind from batch → IsWhole (next ∷ history) kind from batch
IsWhole-longer history next kind from batch whole = record {
  bounded = omega (arith, whole.bounded);
  is_true = all_then (λ update. IsWriteOf-longer history next (key_of kind update.hash) update.version update.value) batch.updates whole.is_true;
  misses_none = λ hash above le.
      let same : last_version (next ∷ history) (key_of kind hash) ≡ last_version history (key_of kind hash)
      = last_version-longer history next (key_of kind hash) (le_trans le whole.bounded) in
      subst (λ version. HasUpdate batch.updates hash version) (sym same)
      (whole.misses_none hash (subst (λ version. from < version) same above) (subst (λ version. version ≤ batch.mark) same le));
}

IsTrueTask-longer : (history : List (Entry Content)) (next : Entry Content) (kind : Kind) (from : ℕ) (task : Task)
    → IsTrueTask history kind from task → IsTrueTask (next ∷ history) kind from task
IsTrueTask-longer history next kind from (Updating batch) whole = IsWhole-longer history next kind from batch whole
IsTrueTask-longer history next kind from (Acks acks) all =
    all_then (λ ack. IsWriteOf-longer history next (key_of kind ack.hash) ack.version ack.value) acks all

AreChained-longer : (history : List (Entry Content)) (next : Entry Content) (kind : Kind) (mark : ℕ) (tasks : List Task) (reached : ℕ)
    → AreChained history kind mark tasks reached → AreChained (next ∷ history) kind mark tasks reached
AreChained-longer history next kind mark [] reached chained = chained
AreChained-longer history next kind mark (task ∷ tasks) reached chained =
    (IsTrueTask-longer history next kind mark task chained.0, AreChained-longer history next kind (mark_after mark task) tasks reached chained.1)

SideFacts-longer : (history : List (Entry Content)) (next : Entry Content) (kind : Kind) (side : Side)
    → SideFacts history kind side → SideFacts (next ∷ history) kind side
SideFacts-longer history next kind side facts = record {
  marked = omega (arith, facts.marked);
  reached = omega (arith, facts.reached);
  keys = λ hash. KeyFacts-longer history next (key_of kind hash) side.mark (state_at side.states hash) facts.marked (facts.keys hash);
  mailed = AreChained-longer history next kind side.mark side.mailbox side.seen facts.mailed;
  waits = IfSome_then side.pending facts.waits (λ batch. IsWhole-longer history next kind side.seen batch);
  told = IfSome_then side.letter facts.told (λ task. IsTrueTask-longer history next kind side.seen task);
}

pub ClientFacts-longer : (history : List (Entry Content)) (next : Entry Content) (outcomes : List EventOutcome) (client : Client)
    → ClientFacts history outcomes client → ClientFacts (next ∷ history) outcomes client
ClientFacts-longer history next outcomes client facts = record {
  sides = λ kind. SideFacts-longer history next kind (side_of client kind) (facts.sides kind);
  awaits = facts.awaits;
}

IsTrueReply-longer : (history : List (Entry Content)) (next : Entry Content) (call : Call Content) (reply : Reply Content)
    → IsTrueReply history call reply → IsTrueReply (next ∷ history) call reply
IsTrueReply-longer history next call reply says kind =
    IfSome_then _ (says kind) (λ task. IsTrueTask-longer history next kind (asked_mark kind call) task)

pub IsTrueOutcome-longer : (history : List (Entry Content)) (next : Entry Content) (outcomes : List EventOutcome) (outcome : EventOutcome)
    → IsTrueOutcome history outcomes outcome → IsTrueOutcome (next ∷ history) outcomes outcome
IsTrueOutcome-longer history next outcomes (Requested client request) within = λ kind. omega (arith, within kind)
IsTrueOutcome-longer history next outcomes (Delivered event reply) answered = record {
  client = answered.client;
  request = answered.request;
  made = answered.made;
  says = IsTrueReply-longer history next answered.request.call reply answered.says;
}
IsTrueOutcome-longer history next outcomes Void fact = tt
IsTrueOutcome-longer history next outcomes Done fact = tt
IsTrueOutcome-longer history next outcomes (Edited client kind number) fact = tt

-- an event that made a request has come
came_by : (earlier : List EventOutcome) (is : Bool) (event number : ℕ) (request : Request Content) (outcome : EventOutcome)
    → eqb event (length earlier + 1) ≡ is → cond is outcome (outcome_at earlier event) ≡ Requested number request
    → (outcome_at earlier event ≡ Requested number request → event ≤ length earlier) → event ≤ suc (length earlier)
came_by earlier true event number request outcome is made rest = omega (arith, eqb-true _ _ is)
came_by earlier false event number request outcome is made rest = omega (arith, rest made)

request-came : (outcomes : List EventOutcome) (event number : ℕ) (request : Request Content)
    → outcome_at outcomes event ≡ Requested number request → event ≤ length outcomes
unfolding outcome_at
request-came [] event number request made = absurd (cc made)
request-came (outcome ∷ earlier) event number request made =
    came_by earlier (eqb event (length earlier + 1)) event number request outcome refl made (request-came earlier event number request)

-- a request stays where it is under a further outcome
pub request-later : (outcomes : List EventOutcome) (outcome : EventOutcome) (event number : ℕ) (request : Request Content)
    → outcome_at outcomes event ≡ Requested number request → outcome_at (outcome ∷ outcomes) event ≡ Requested number request
unfolding outcome_at
request-later outcomes outcome event number request made =
    let came : event ≤ length outcomes = request-came outcomes event number request made in
    cond-false _ _ _ (ne_eqb event (length outcomes + 1) (λ is. omega (arith, came, is))) ∙ made

IsTrueOutcome-later : (history : List (Entry Content)) (outcomes : List EventOutcome) (later outcome : EventOutcome)
    → IsTrueOutcome history outcomes outcome → IsTrueOutcome history (later ∷ outcomes) outcome
IsTrueOutcome-later history outcomes later (Requested client request) within = within
IsTrueOutcome-later history outcomes later (Delivered event reply) answered = record {
  client = answered.client;
  request = answered.request;
  made = request-later outcomes later event answered.client answered.request answered.made;
  says = answered.says;
}
IsTrueOutcome-later history outcomes later Void fact = tt
IsTrueOutcome-later history outcomes later Done fact = tt
IsTrueOutcome-later history outcomes later (Edited client kind number) fact = tt

-- all outcomes are true, with a further one that is
later_by : (history : List (Entry Content)) (outcomes : List EventOutcome) (later : EventOutcome) (event : ℕ) (is : Bool)
    → IsTrueOutcome history (later ∷ outcomes) later → IsTrueOutcome history (later ∷ outcomes) (outcome_at outcomes event)
    → IsTrueOutcome history (later ∷ outcomes) (cond is later (outcome_at outcomes event))
later_by history outcomes later event true new old = new
later_by history outcomes later event false new old = old

pub outcomes-later : (history : List (Entry Content)) (outcomes : List EventOutcome) (later : EventOutcome)
    → IsTrueOutcome history (later ∷ outcomes) later
    → ((event : ℕ) → IsTrueOutcome history outcomes (outcome_at outcomes event))
    → (event : ℕ) → IsTrueOutcome history (later ∷ outcomes) (outcome_at (later ∷ outcomes) event)
unfolding outcome_at
outcomes-later history outcomes later new old event =
    later_by history outcomes later event (eqb event (length outcomes + 1)) new (IsTrueOutcome-later history outcomes later (outcome_at outcomes event) (old event))

pub ClientFacts-later : (history : List (Entry Content)) (outcomes : List EventOutcome) (later : EventOutcome) (client : Client)
    → ClientFacts history outcomes client → ClientFacts history (later ∷ outcomes) client
ClientFacts-later history outcomes later client facts = record {
  sides = facts.sides;
  awaits = IfSome_then client.outstanding facts.awaits (λ event awaiting. record {
    number = awaiting.number;
    request = awaiting.request;
    made = request-later outcomes later event awaiting.number awaiting.request awaiting.made;
    asked = awaiting.asked;
  });
}
