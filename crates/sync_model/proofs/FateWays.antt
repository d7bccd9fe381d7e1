-- What is said of all that is on its way stays so under a further outcome, and as letters are posted and applied.
use Rattle.std.proofs.Common.{◌≡◌, ℕ, suc, ◌+◌, ◌<◌, Bool, true, false, cond, List, [], ◌∷◌, ◌++◌, length, Option, Some, None, refl, sym, subst, ◌∙◌, eqb, arith, IfSome}
use Rattle.std.specs.List.{AllByRecursion}
use Rattle.std.proofs.lemmas.Bool.{eqb-true, ne_eqb, cond-false}
use Rattle.std.proofs.lemmas.Option.{IfSome_then}
use Rattle.client_tags.specs.declared.Kind.{Kind}
use Rattle.client_tags.specs.declared.Kind.TheVariants.{Nigori, Preference, Password}
use Rattle.sync_values.specs.declared.value.Value.{Value}
use Rattle.sync_model.specs.declared.conflict.Decision.{Decision}
use Rattle.sync_model.specs.declared.event.EventOutcome.{EventOutcome}
use Rattle.sync_model.specs.declared.event.EventOutcome.TheVariants.{Void, Done, Edited, Requested, Delivered}
use Rattle.sync_model.specs.declared.message.Ack.{Ack}
use Rattle.sync_model.specs.declared.message.Batch.{Batch}
use Rattle.sync_model.specs.declared.message.Call.{Call}
use Rattle.sync_model.specs.declared.message.Call.TheVariants.{Commit, Updates as AskUpdates}
use Rattle.sync_model.specs.declared.message.Content.{Content}
use Rattle.sync_model.specs.declared.message.Entry.{Entry}
use Rattle.sync_model.specs.declared.message.Request.{Request}
use Rattle.sync_model.specs.declared.message.Task.{Task}
use Rattle.sync_model.specs.declared.message.Task.TheVariants.{Batch as Updating, Acks}
use Rattle.sync_model.specs.Sides.{Side, after_task, mailed}
use Rattle.sync_model.specs.Clients.{Client, Effect, new_client, side_of, with_side, restarted, plain_effect}
use Rattle.sync_model.specs.Worlds.{World, outcome_at, client_at}
use Rattle.sync_model.specs.Laws.{Stores}
use Rattle.sync_model.specs.FateFacts.{Saying, IsSaidOfEntry, IsSaidOfCall, AreOfDistinctKeys, IsSentBy, IsSaidOfAck, IsSaidOfTask, IsSaidOfSide, IsSaidOfClient, IsSaidOfOutcome, IsSaidOnTheWay}
use Rattle.sync_model.proofs.Longer.{all_then, request-later}
use Rattle.sync_model.proofs.KnownClients.{with_side_keeps, alike}
use Rattle.sync_model.proofs.TrueAcks.{all_append}

-- an event that has not come has made nothing
not_come : (outcomes : List EventOutcome) (event : ℕ) → length outcomes < event → outcome_at outcomes event ≡ Void
unfolding outcome_at
not_come [] event above = refl
not_come (outcome ∷ earlier) event above =
    cond-false _ _ _ (ne_eqb event (length earlier + 1) (λ is. omega (arith, above, is))) ∙ not_come earlier event (omega (arith, above))

-- what a delivery stored it still did under a further outcome
stores-later : (outcomes : List EventOutcome) (later : EventOutcome) (delivery request place version : ℕ)
    → Stores (outcome_at outcomes delivery) request place version → Stores (outcome_at (later ∷ outcomes) delivery) request place version
unfolding outcome_at
stores-later outcomes later delivery request place version stores = by (eqb delivery (length outcomes + 1)) refl
  where
    by : (is : Bool) → eqb delivery (length outcomes + 1) ≡ is → Stores (cond is later (outcome_at outcomes delivery)) request place version
    by true is = absurd (subst (λ (outcome : EventOutcome). Stores outcome request place version)
        (not_come outcomes delivery (omega (arith, eqb-true _ _ is))) stores)
    by false is = stores

pub IsSentBy-later : (outcomes : List EventOutcome) (later : EventOutcome) (client version : ℕ) → IsSentBy outcomes client version
    → IsSentBy (later ∷ outcomes) client version
IsSentBy-later outcomes later client version sent = record {
  event = sent.event;
  request = sent.request;
  made = request-later outcomes later sent.event client sent.request sent.made;
  place = sent.place;
  delivery = sent.delivery;
  stores = stores-later outcomes later sent.delivery sent.event sent.place version sent.stores;
}

task-later : (Says : Saying) (kind : Kind) (client : ℕ) (outcomes : List EventOutcome) (later : EventOutcome) (task : Task)
    → IsSaidOfTask Says kind client outcomes task → IsSaidOfTask Says kind client (later ∷ outcomes) task
task-later Says kind client outcomes later (Updating batch) said = said
task-later Says kind client outcomes later (Acks acks) said =
    all_then (λ ack said. (said.0, IsSentBy-later outcomes later client ack.version said.1)) acks said

side-later : (Says : Saying) (client : ℕ) (outcomes : List EventOutcome) (later : EventOutcome) (kind : Kind) (side : Side)
    → IsSaidOfSide Says client outcomes kind side → IsSaidOfSide Says client (later ∷ outcomes) kind side
side-later Says client outcomes later kind side said = record {
  mailbox = all_then (task-later Says kind client outcomes later) side.mailbox said.mailbox;
  pending = said.pending;
  letter = IfSome_then side.letter said.letter (task-later Says kind client outcomes later);
}

pub client-later : (Says : Saying) (number : ℕ) (outcomes : List EventOutcome) (later : EventOutcome) (client : Client)
    → IsSaidOfClient Says number outcomes client → IsSaidOfClient Says number (later ∷ outcomes) client
client-later Says number outcomes later client said = record {
  held = said.held;
  sides = λ kind. side-later Says number outcomes later kind (side_of client kind) (said.sides kind);
  awaits = IfSome_then client.outstanding said.awaits
      (λ event made. (made.0, request-later outcomes later event number made.0 made.1));
}

-- what is said of all outcomes, with a further one of which it is said
pub said-later : (Says : ℕ → Saying) (outcomes : List EventOutcome) (later : EventOutcome) → IsSaidOfOutcome Says later
    → ((event : ℕ) → IsSaidOfOutcome Says (outcome_at outcomes event)) → (event : ℕ) → IsSaidOfOutcome Says (outcome_at (later ∷ outcomes) event)
unfolding outcome_at
said-later Says outcomes later new old event = by (eqb event (length outcomes + 1))
  where
    by : (is : Bool) → IsSaidOfOutcome Says (cond is later (outcome_at outcomes event))
    by true = new
    by false = old event

-- something weaker is said
abbrev pub Weaker : Saying → Saying → Type 0
Weaker Says Weakly = (kind : Kind) (edit : ℕ) (value : Value) → Says kind edit value → Weakly kind edit value

task_weaker : (Says Weakly : Saying) (kind : Kind) (client : ℕ) (outcomes : List EventOutcome) → Weaker Says Weakly → (task : Task)
    → IsSaidOfTask Says kind client outcomes task → IsSaidOfTask Weakly kind client outcomes task
task_weaker Says Weakly kind client outcomes weaker (Updating batch) said = said
task_weaker Says Weakly kind client outcomes weaker (Acks acks) said =
    all_then (λ ack said. (weaker kind ack.number ack.value said.0, said.1)) acks said

entries_weaker : (Says Weakly : Saying) → Weaker Says Weakly → (entries : List (Entry Content))
    → AllByRecursion (IsSaidOfEntry Says) entries → AllByRecursion (IsSaidOfEntry Weakly) entries
entries_weaker Says Weakly weaker entries said =
    all_then (λ entry. weaker entry.key.kind entry.content.number entry.content.value) entries said

client_weaker : (Says Weakly : Saying) (number : ℕ) (outcomes : List EventOutcome) (client : Client) → Weaker Says Weakly
    → IsSaidOfClient Says number outcomes client → IsSaidOfClient Weakly number outcomes client
client_weaker Says Weakly number outcomes client weaker said = record {
  held = entries_weaker Says Weakly weaker client.held said.held;
  sides = λ kind. record {
    mailbox = all_then (task_weaker Says Weakly kind number outcomes weaker) (side_of client kind).mailbox (said.sides kind).mailbox;
    pending = (said.sides kind).pending;
    letter = IfSome_then (side_of client kind).letter (said.sides kind).letter (task_weaker Says Weakly kind number outcomes weaker);
  };
  awaits = said.awaits;
}

call_weaker : (Says Weakly : Saying) → Weaker Says Weakly → (call : Call Content) → IsSaidOfCall Says call → IsSaidOfCall Weakly call
call_weaker Says Weakly weaker (Commit entries) said = entries_weaker Says Weakly weaker entries said
call_weaker Says Weakly weaker (AskUpdates marks) said = tt

outcome_weaker : (Says Weakly : ℕ → Saying) → ((number : ℕ) → Weaker (Says number) (Weakly number)) → (outcome : EventOutcome)
    → IsSaidOfOutcome Says outcome → IsSaidOfOutcome Weakly outcome
outcome_weaker Says Weakly weaker (Requested client request) said = call_weaker (Says client) (Weakly client) (weaker client) request.call said
outcome_weaker Says Weakly weaker (Delivered event reply) said = said
outcome_weaker Says Weakly weaker Void said = tt
outcome_weaker Says Weakly weaker Done said = tt
outcome_weaker Says Weakly weaker (Edited client kind edit) said = tt

pub way_weaker : (Says Weakly : ℕ → Saying) (world : World) → ((number : ℕ) → Weaker (Says number) (Weakly number))
    → IsSaidOnTheWay Says world → IsSaidOnTheWay Weakly world
way_weaker Says Weakly world weaker said = record {
  clients = λ place. client_weaker (Says (suc place)) (Weakly (suc place)) (suc place) world.outcomes (client_at world.clients (suc place))
      (weaker (suc place)) (said.clients place);
  outcomes = λ event. outcome_weaker Says Weakly weaker (outcome_at world.outcomes event) (said.outcomes event);
}

-- a client with another side of a type
pub with_side-rest : (client : Client) (kind : Kind) (side : Side)
    → ((with_side client kind side).held ≡ client.held) × ((with_side client kind side).outstanding ≡ client.outstanding)
with_side-rest client Nigori side = (refl, refl)
with_side-rest client Preference side = (refl, refl)
with_side-rest client Password side = (refl, refl)

pub with_side-said : (Says : Saying) (number : ℕ) (outcomes : List EventOutcome) (client : Client) (kind : Kind) (side : Side)
    → IsSaidOfSide Says number outcomes kind side → IsSaidOfClient Says number outcomes client
    → IsSaidOfClient Says number outcomes (with_side client kind side)
with_side-said Says number outcomes client kind side is said = record {
  held = subst (λ (held : List (Entry Content)). AllByRecursion (IsSaidOfEntry Says) held) (sym (with_side-rest client kind side).0) said.held;
  sides = with_side_keeps (λ other. IsSaidOfSide Says number outcomes other) client kind side is said.sides;
  awaits = subst (λ (outstanding : Option ℕ). IfSome outstanding (λ event. (request : Request Content) × (outcome_at outcomes event ≡ Requested number request)))
      (sym (with_side-rest client kind side).1) said.awaits;
}

-- a client with the same sides
pub alike-said : (Says : Saying) (number : ℕ) (outcomes : List EventOutcome) (old new : Client)
    → new.nigori ≡ old.nigori → new.preference ≡ old.preference → new.password ≡ old.password
    → AllByRecursion (IsSaidOfEntry Says) new.held
    → IfSome new.outstanding (λ event. (request : Request Content) × (outcome_at outcomes event ≡ Requested number request))
    → ((kind : Kind) → IsSaidOfSide Says number outcomes kind (side_of old kind)) → IsSaidOfClient Says number outcomes new
alike-said Says number outcomes old new nigori preference password held awaits sides = record {
  held = held;
  sides = alike (λ kind. IsSaidOfSide Says number outcomes kind) old new nigori preference password sides;
  awaits = awaits;
}

pub new_client-said : (Says : Saying) (number : ℕ) (outcomes : List EventOutcome) → IsSaidOfClient Says number outcomes new_client
new_client-said Says number outcomes = record { held = tt; sides = sides; awaits = tt }
  where
    sides : (kind : Kind) → IsSaidOfSide Says number outcomes kind (side_of new_client kind)
    sides Nigori = record { mailbox = tt; pending = tt; letter = tt }
    sides Preference = record { mailbox = tt; pending = tt; letter = tt }
    sides Password = record { mailbox = tt; pending = tt; letter = tt }

-- nothing is on its way to a client that restarts
pub restarted-said : (Says : Saying) (number : ℕ) (outcomes : List EventOutcome) (client : Client) → IsSaidOfClient Says number outcomes (restarted client)
restarted-said Says number outcomes client = record { held = tt; sides = sides; awaits = tt }
  where
    sides : (kind : Kind) → IsSaidOfSide Says number outcomes kind (side_of (restarted client) kind)
    sides Nigori = record { mailbox = tt; pending = tt; letter = tt }
    sides Preference = record { mailbox = tt; pending = tt; letter = tt }
    sides Password = record { mailbox = tt; pending = tt; letter = tt }

-- a batch goes to the mailbox
pub mailed-said : (Says : Saying) (number : ℕ) (outcomes : List EventOutcome) (kind : Kind) (side : Side) (batch : Batch)
    → AreOfDistinctKeys batch.updates → IsSaidOfSide Says number outcomes kind side → IsSaidOfSide Says number outcomes kind (mailed side batch)
mailed-said Says number outcomes kind side batch distinct said = record {
  mailbox = all_append (IsSaidOfTask Says kind number outcomes) side.mailbox (Updating batch ∷ []) said.mailbox (distinct, tt);
  pending = tt;
  letter = said.letter;
}

-- acknowledgements go to the mailbox
pub acks-said : (Says : Saying) (number : ℕ) (outcomes : List EventOutcome) (kind : Kind) (side : Side) (acks : List Ack)
    → AllByRecursion (IsSaidOfAck Says kind number outcomes) acks → IsSaidOfSide Says number outcomes kind side
    → IsSaidOfSide Says number outcomes kind (record side { mailbox = side.mailbox ++ Acks acks ∷ []; letter = None })
acks-said Says number outcomes kind side acks all said = record {
  mailbox = all_append (IsSaidOfTask Says kind number outcomes) side.mailbox (Acks acks ∷ []) said.mailbox (all, tt);
  pending = said.pending;
  letter = tt;
}

-- the first task of a mailbox is applied
pub turned-said : (decided : Value → Value → Decision) (Says : Saying) (number : ℕ) (outcomes : List EventOutcome) (kind : Kind) (side : Side) (task : Task) (tasks : List Task)
    → side.mailbox ≡ task ∷ tasks → IsSaidOfSide Says number outcomes kind side
    → IsSaidOfSide Says number outcomes kind (after_task decided (record side { mailbox = tasks }) task)
unfolding after_task
turned-said decided Says number outcomes kind side task tasks is said =
    by task (subst (λ (mailbox : List Task). AllByRecursion (IsSaidOfTask Says kind number outcomes) mailbox) is said.mailbox)
  where
    by : (task : Task) → AllByRecursion (IsSaidOfTask Says kind number outcomes) (task ∷ tasks)
        → IsSaidOfSide Says number outcomes kind (after_task decided (record side { mailbox = tasks }) task)
    by (Updating batch) all = record { mailbox = all.1; pending = said.pending; letter = said.letter }
    by (Acks acks) all = record { mailbox = all.1; pending = said.pending; letter = said.letter }

-- what is said of an effect: of the client after it, and of what came of the event
abbrev pub IsSaidOfEffect : (ℕ → Saying) → ℕ → List EventOutcome → Option Effect → Type 0
IsSaidOfEffect Says number outcomes effect = IfSome effect (λ made.
    IsSaidOfClient (Says number) number (made.outcome ∷ outcomes) made.client × IsSaidOfOutcome Says made.outcome)

-- an event that makes nothing which a later one names
pub done_said : (Says : ℕ → Saying) (number : ℕ) (outcomes : List EventOutcome) (client : Client)
    → IsSaidOfClient (Says number) number outcomes client → IsSaidOfEffect Says number outcomes (Some (plain_effect client Done))
done_said Says number outcomes client said = (client-later (Says number) number outcomes Done client said, tt)
