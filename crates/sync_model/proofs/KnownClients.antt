-- What holds of a client, as it follows from what holds of its sides.
use Rattle.std.proofs.Common.{◌≡◌, ℕ, ◌≤◌, List, ◌∷◌, Option, Some, refl, sym, subst, arith, le_refl, IfSome}
use Rattle.std.proofs.lemmas.Option.{IfSome_then}
use Rattle.client_tags.specs.declared.Kind.{Kind}
use Rattle.client_tags.specs.declared.Kind.TheVariants.{Nigori, Preference, Password}
use Rattle.sync_model.specs.declared.event.EventOutcome.{EventOutcome}
use Rattle.sync_model.specs.declared.event.EventOutcome.TheVariants.{Done}
use Rattle.sync_model.specs.declared.message.Content.{Content}
use Rattle.sync_model.specs.declared.message.Entry.{Entry}
use Rattle.sync_model.specs.Sides.{Side}
use Rattle.sync_model.specs.Clients.{Client, Effect, new_client, side_of, with_side, restarted, plain_effect}
use Rattle.sync_model.specs.Facts.{SideFacts, IsTrueOutcome, IsAwaiting, ClientFacts}
use Rattle.sync_model.proofs.Longer.{ClientFacts-later}
use Rattle.sync_model.proofs.KnownSides.{new_side-SideFacts, restarted-SideFacts}

-- what holds of each side of a client does of the sides of one with another side of a type
pub with_side_keeps : (P : Kind → Side → Type 0) (client : Client) (kind : Kind) (side : Side) → P kind side
    → ((other : Kind) → P other (side_of client other)) → (other : Kind) → P other (side_of (with_side client kind side) other)
with_side_keeps P client Nigori side here all Nigori = here
with_side_keeps P client Nigori side here all Preference = all Preference
with_side_keeps P client Nigori side here all Password = all Password
with_side_keeps P client Preference side here all Nigori = all Nigori
with_side_keeps P client Preference side here all Preference = here
with_side_keeps P client Preference side here all Password = all Password
with_side_keeps P client Password side here all Nigori = all Nigori
with_side_keeps P client Password side here all Preference = all Preference
with_side_keeps P client Password side here all Password = here

outstanding-with_side : (client : Client) (kind : Kind) (side : Side) → (with_side client kind side).outstanding ≡ client.outstanding
outstanding-with_side client Nigori side = refl
outstanding-with_side client Preference side = refl
outstanding-with_side client Password side = refl

-- a client that waits for the same reply with sides that have seen no less
still_awaits : (outcomes : List EventOutcome) (old new : Client) → ((kind : Kind) → (side_of old kind).seen ≤ (side_of new kind).seen)
    → (event : ℕ) → IsAwaiting outcomes old event → IsAwaiting outcomes new event
still_awaits outcomes old new more event awaiting = record {
  number = awaiting.number;
  request = awaiting.request;
  made = awaiting.made;
  asked = λ kind. omega (arith, awaiting.asked kind, more kind);
}

-- a client with another side of a type
pub with_side-ClientFacts : (history : List (Entry Content)) (outcomes : List EventOutcome) (client : Client) (kind : Kind) (side : Side)
    → SideFacts history kind side → (side_of client kind).seen ≤ side.seen
    → ClientFacts history outcomes client → ClientFacts history outcomes (with_side client kind side)
with_side-ClientFacts history outcomes client kind side is more facts = record {
  sides = with_side_keeps (λ other. SideFacts history other) client kind side is facts.sides;
  awaits = subst (λ (outstanding : Option ℕ). IfSome outstanding (IsAwaiting outcomes (with_side client kind side)))
      (sym (outstanding-with_side client kind side))
      (IfSome_then client.outstanding facts.awaits (still_awaits outcomes client (with_side client kind side)
      (with_side_keeps (λ other side. (side_of client other).seen ≤ side.seen) client kind side more (λ other. le_refl _))));
}

-- what holds of each side of a client does where another client has the same sides
pub alike : (P : Kind → Side → Type 0) (old new : Client) → new.nigori ≡ old.nigori → new.preference ≡ old.preference → new.password ≡ old.password
    → ((kind : Kind) → P kind (side_of old kind)) → (kind : Kind) → P kind (side_of new kind)
alike P old new nigori preference password all Nigori = subst (λ (side : Side). P Nigori side) (sym nigori) (all Nigori)
alike P old new nigori preference password all Preference = subst (λ (side : Side). P Preference side) (sym preference) (all Preference)
alike P old new nigori preference password all Password = subst (λ (side : Side). P Password side) (sym password) (all Password)

pub alike-ClientFacts : (history : List (Entry Content)) (outcomes : List EventOutcome) (old new : Client)
    → new.nigori ≡ old.nigori → new.preference ≡ old.preference → new.password ≡ old.password
    → IfSome new.outstanding (IsAwaiting outcomes old)
    → ((kind : Kind) → SideFacts history kind (side_of old kind)) → ClientFacts history outcomes new
alike-ClientFacts history outcomes old new nigori preference password awaits sides = record {
  sides = alike (λ kind. SideFacts history kind) old new nigori preference password sides;
  awaits = IfSome_then new.outstanding awaits (still_awaits outcomes old new
      (alike (λ kind side. (side_of old kind).seen ≤ side.seen) old new nigori preference password (λ kind. le_refl _)));
}

pub new_client-ClientFacts : (history : List (Entry Content)) (outcomes : List EventOutcome) → ClientFacts history outcomes new_client
new_client-ClientFacts history outcomes = record { sides = sides; awaits = tt }
  where
    sides : (kind : Kind) → SideFacts history kind (side_of new_client kind)
    sides Nigori = new_side-SideFacts history Nigori
    sides Preference = new_side-SideFacts history Preference
    sides Password = new_side-SideFacts history Password

-- what a crash leaves waits for nothing, so that no outcome matters to it
pub restarted-ClientFacts : (history : List (Entry Content)) (before after : List EventOutcome) (client : Client)
    → ClientFacts history before client → ClientFacts history after (restarted client)
restarted-ClientFacts history before after client facts = record { sides = sides; awaits = tt }
  where
    sides : (kind : Kind) → SideFacts history kind (side_of (restarted client) kind)
    sides Nigori = restarted-SideFacts history Nigori client.nigori (facts.sides Nigori)
    sides Preference = restarted-SideFacts history Preference client.preference (facts.sides Preference)
    sides Password = restarted-SideFacts history Password client.password (facts.sides Password)

-- what holds of an effect: the client after it, and what came of the event
abbrev pub EffectFacts : List (Entry Content) → List EventOutcome → Option Effect → Type 0
EffectFacts history outcomes effect = IfSome effect (λ made.
    ClientFacts history (made.outcome ∷ outcomes) made.client × IsTrueOutcome history (made.outcome ∷ outcomes) made.outcome)

-- an event that makes nothing which a later one names
pub done_facts : (history : List (Entry Content)) (outcomes : List EventOutcome) (client : Client)
    → ClientFacts history outcomes client → EffectFacts history outcomes (Some (plain_effect client Done))
done_facts history outcomes client facts = (ClientFacts-later history outcomes Done client facts, tt)
