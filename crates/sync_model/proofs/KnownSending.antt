-- What holds of a client still does after it gathers, asks, offers and gives up.
use Rattle.std.proofs.Common.{◌≡◌, ℕ, ◌+◌, ◌≤◌, Bool, true, false, cond, List, [], ◌∷◌, length, Option, Some, None, is_some, refl, sym, subst, arith, le_refl, eqb, IfSome, ◌||◌}
use Rattle.std.proofs.lemmas.Bool.{eq-eqb, cond-true}
use Rattle.client_tags.specs.declared.Kind.{Kind}
use Rattle.client_tags.specs.declared.Kind.TheVariants.{Nigori, Preference, Password}
use Rattle.sync_model.specs.declared.event.EventOutcome.{EventOutcome}
use Rattle.sync_model.specs.declared.event.EventOutcome.TheVariants.{Done, Requested}
use Rattle.sync_model.specs.declared.message.Batch.{Batch}
use Rattle.sync_model.specs.declared.message.Content.{Content}
use Rattle.sync_model.specs.declared.message.Entry.{Entry}
use Rattle.sync_model.specs.declared.message.Request.{Request}
use Rattle.sync_model.specs.Settings.{Setting}
use Rattle.sync_model.specs.Sides.{Side, side_offered, mailed}
use Rattle.sync_model.specs.Clients.{Client, side_of, with_side, wanted_name, plain_effect, opens, batch_mailed}
use Rattle.sync_model.specs.Sending.{drawing, holding, asked_offers, gathered, gathering, is_gather_void, gather_effect, ask_of, is_busy, ask_effect, commit_of, offer_effect, lose_effect}
use Rattle.sync_model.specs.Worlds.{outcome_at}
use Rattle.sync_model.specs.Facts.{IsWhole, SideFacts, asked_mark, IsAwaiting, ClientFacts}
use Rattle.sync_model.proofs.KnownSides.{noted-SideFacts, mailed-SideFacts}
use Rattle.sync_model.proofs.KnownClients.{with_side-ClientFacts, alike-ClientFacts, EffectFacts, done_facts}

-- a batch that a client puts into a mailbox
pub batch_mailed-ClientFacts : (history : List (Entry Content)) (outcomes : List EventOutcome) (setting : Setting) (client : Client) (kind : Kind) (side : Side) (batch : Batch)
    → SideFacts history kind side → IsWhole history kind side.seen batch → (side_of client kind).seen ≤ side.seen
    → ClientFacts history outcomes client → ClientFacts history outcomes (batch_mailed setting client kind side batch)
batch_mailed-ClientFacts history outcomes setting client kind side batch is whole more facts =
    let mailed_facts : ClientFacts history outcomes (with_side client kind (mailed side batch))
    = with_side-ClientFacts history outcomes client kind (mailed side batch) (mailed-SideFacts history kind side batch whole is)
    (omega (arith, more)) facts in
    alike-ClientFacts history outcomes (with_side client kind (mailed side batch)) _ refl refl refl mailed_facts.awaits mailed_facts.sides

-- a gather
gathering-ClientFacts : (history : List (Entry Content)) (outcomes : List EventOutcome) (setting : Setting) (number : ℕ) (kind : Kind) (client : Client) (pending : Option Batch)
    → IfSome pending (IsWhole history kind (side_of client kind).seen)
    → ClientFacts history outcomes client → ClientFacts history outcomes (gathering setting number kind client pending)
gathering-ClientFacts history outcomes setting number kind client (Some batch) whole facts = by (opens setting client.bag batch)
  where
    by : (opened : Bool) → ClientFacts history outcomes (cond opened (batch_mailed setting client kind (side_of client kind) batch) client)
    by true = batch_mailed-ClientFacts history outcomes setting client kind (side_of client kind) batch (facts.sides kind) whole (le_refl _) facts
    by false = facts
gathering-ClientFacts history outcomes setting number kind client None whole facts =
    let holds : Client = holding (drawing setting number client) kind (wanted_name setting client kind) (gathered setting kind client) client
    in let held : ClientFacts history outcomes holds = alike-ClientFacts history outcomes client holds refl refl refl facts.awaits facts.sides
    in with_side-ClientFacts history outcomes holds kind (side_offered (side_of holds kind) (asked_offers setting kind client))
    (noted-SideFacts history kind (side_of holds kind) (asked_offers setting kind client) (held.sides kind)) (le_refl _) held

pub gather_effect-facts : (history : List (Entry Content)) (outcomes : List EventOutcome) (setting : Setting) (number : ℕ) (kind : Kind) (client : Client)
    → ClientFacts history outcomes client → EffectFacts history outcomes (gather_effect setting number kind client)
unfolding gather_effect
gather_effect-facts history outcomes setting number kind client facts = by (is_gather_void kind client)
  where
    by : (void : Bool) → EffectFacts history outcomes (cond void None (Some (plain_effect (gathering setting number kind client (side_of client kind).pending) Done)))
    by true = tt
    by false = done_facts history outcomes _ (gathering-ClientFacts history outcomes setting number kind client (side_of client kind).pending (facts.sides kind).waits facts)

-- what a client asks for is what it has seen of each type
asked_seen : (client : Client) (kind : Kind) → asked_mark kind (ask_of client).call ≡ (side_of client kind).seen
asked_seen client Nigori = refl
asked_seen client Preference = refl
asked_seen client Password = refl

-- the outcome of the next event is the one that it makes
pub outcome_at-next : (outcomes : List EventOutcome) (outcome : EventOutcome) → outcome_at (outcome ∷ outcomes) (length outcomes + 1) ≡ outcome
unfolding outcome_at
outcome_at-next outcomes outcome = cond-true _ _ _ (eq-eqb (length outcomes + 1) (length outcomes + 1) refl)

-- a client that makes a request which asks above no mark that it has not seen
requested-facts : (history : List (Entry Content)) (outcomes : List EventOutcome) (number : ℕ) (old new : Client) (request : Request Content)
    → new.nigori ≡ old.nigori → new.preference ≡ old.preference → new.password ≡ old.password → new.outstanding ≡ Some (length outcomes + 1)
    → ((kind : Kind) → asked_mark kind request.call ≤ (side_of old kind).seen)
    → ClientFacts history outcomes old → EffectFacts history outcomes (Some (plain_effect new (Requested number request)))
requested-facts history outcomes number old new request nigori preference password outstanding asked facts = (
  alike-ClientFacts history (Requested number request ∷ outcomes) old new nigori preference password
      (subst (λ (event : Option ℕ). IfSome event (IsAwaiting (Requested number request ∷ outcomes) old)) (sym outstanding) record {
        number = number;
        request = request;
        made = outcome_at-next outcomes (Requested number request);
        asked = asked;
      }) facts.sides,
  λ kind. omega (arith, asked kind, (facts.sides kind).reached),
)

pub ask_effect-facts : (history : List (Entry Content)) (outcomes : List EventOutcome) (number : ℕ) (client : Client)
    → ClientFacts history outcomes client → EffectFacts history outcomes (ask_effect number (length outcomes + 1) client)
unfolding ask_effect
ask_effect-facts history outcomes number client facts = by (is_busy client)
  where
    by : (busy : Bool) → EffectFacts history outcomes (cond busy None (Some (plain_effect (record client { outstanding = Some (length outcomes + 1) }) (Requested number (ask_of client)))))
    by true = tt
    by false = requested-facts history outcomes number client _ (ask_of client) refl refl refl refl (λ kind. omega (arith, asked_seen client kind)) facts

pub offer_effect-facts : (history : List (Entry Content)) (outcomes : List EventOutcome) (number : ℕ) (client : Client)
    → ClientFacts history outcomes client → EffectFacts history outcomes (offer_effect number (length outcomes + 1) client)
unfolding offer_effect
offer_effect-facts history outcomes number client facts = by (is_busy client || eqb (length client.held) 0)
  where
    by : (busy : Bool) → EffectFacts history outcomes (cond busy None (Some (plain_effect (record client { held = []; outstanding = Some (length outcomes + 1) }) (Requested number (commit_of client)))))
    by true = tt
    by false = requested-facts history outcomes number client _ (commit_of client) refl refl refl refl (λ kind. omega arith) facts

pub lose_effect-facts : (history : List (Entry Content)) (outcomes : List EventOutcome) (client : Client)
    → ClientFacts history outcomes client → EffectFacts history outcomes (lose_effect client)
unfolding lose_effect
lose_effect-facts history outcomes client facts = by (is_some client.outstanding)
  where
    by : (waits : Bool) → EffectFacts history outcomes (cond waits (Some (plain_effect (record client { outstanding = None }) Done)) None)
    by true = done_facts history outcomes _ (alike-ClientFacts history outcomes client _ refl refl refl tt facts.sides)
    by false = tt
