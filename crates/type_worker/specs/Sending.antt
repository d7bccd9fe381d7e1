-- What a type sends of its offers: entities, sealed where a key seals them.
use Rattle.std.specs.Prelude.{◌≡◌, ℕ, ◌≤◌, Bool, true, false, ◌&&◌, ◌||◌, ◌==◌, not, if◌then◌else◌, List, [], ◌∷◌, length, Option, Some, None, is_some, option_map, IfSome}
use Rattle.std.specs.Int.{w64, cast_signed}
use Rattle.std.specs.List.{list_all}
use Rattle.client_tags.specs.declared.Kind.{Kind}
use Rattle.client_tags.specs.declared.Kind.TheVariants as kinds
use Rattle.key_derivation.specs.declared.NigoriKey.{NigoriKey}
use Rattle.nigori.specs.Sealing.{sealed}
use Rattle.sync_values.specs.declared.value.Value.{Value}
use Rattle.sync_specifics.specs.declared.sealed.Sealed.{Sealed}
use Rattle.sync_specifics.specs.declared.specifics.Specifics.{Specifics}
use Rattle.sync_messages.specs.declared.message.Entity.{Entity}
use Rattle.key_bag.specs.Bags.{Bag, key_named}
use Rattle.sync_model.specs.declared.message.Offer.{Offer}
use Rattle.sync_model.specs.Settings.{no_key}
use Rattle.sync_model.specs.Sending.{lock_for, own_lock, drawn_for}
use Rattle.sync_model.specs.Values.{is_absent}
use Rattle.random_vectors.specs.Vectors.{Place, vectors_from, after_draws}
use Rattle.replay_messages.specs.Replies.{id_of}
use Rattle.replay_messages.specs.Sealed.{plain_specifics, text_to_seal, specifics_around}
use Rattle.type_worker.specs.Batches.{Held}

-- logins are always sealed under the default key, preferences where that is asked, and a profile's keys never
abbrev pub needs_default : Bool → Kind → Bool
needs_default seals kinds.Nigori = false
needs_default seals kinds.Preference = seals
needs_default seals kinds.Password = true

-- the name of the key under which a type's values are sealed, if there is one
abbrev pub wanted_name : Bag → Bool → Kind → Option (List ℕ)
wanted_name bag seals kind = if needs_default seals kind then bag.default else None

-- a bag has the key of a lock, if there is one
abbrev pub has_lock : Bag → Option (List ℕ) → Bool
has_lock bag None = true
has_lock bag (Some name) = is_some (key_named bag.keys name)

-- a bag has the keys of all own locks of what is offered
abbrev pub have_own_locks : Bag → List Offer → Bool
have_own_locks bag offers = list_all (λ offer. has_lock bag (own_lock offer.value)) offers

-- the bag lacks the key of the own lock of a profile's keys that are offered
abbrev pub lacks_own_lock : Bag → Kind → List Offer → Bool
lacks_own_lock bag kinds.Nigori offers = not (have_own_locks bag offers)
lacks_own_lock bag kinds.Preference offers = false
lacks_own_lock bag kinds.Password offers = false

-- nothing is sent: a batch waits, the default key is needed and missing, or a profile's keys lack their own
abbrev pub is_held_back : Held → Bag → Bool → List Offer → Bool
is_held_back held bag seals offers =
    is_some held.pending || (needs_default seals held.kind && not (is_some bag.default))
    || lacks_own_lock bag held.kind offers

-- the name of the entity on which an offer is based, empty where it is based on none
abbrev pub id_based : Kind → Offer → List ℕ
id_based kind offer = if offer.known == 0 then [] else id_of (record { kind = kind; hash = offer.hash })

-- an offer as an entity with these specifics
abbrev pub entity_with : Kind → Offer → Specifics → Entity
entity_with kind offer specifics = record {
  id = id_based kind offer;
  version = cast_signed w64 offer.known;
  deleted = is_absent offer.value;
  specifics = Some specifics;
  hash = Some offer.hash;
}

-- the key of a name in a bag; one that the bag lacks is not asked for
abbrev pub key_of : Option NigoriKey → NigoriKey
key_of None = no_key
key_of (Some key) = key

-- a value's text, sealed under a bag's key of a name with a vector
abbrev pub text_under : Bag → List ℕ → List ℕ → Value → Sealed
text_under bag name vector value =
    record { key_name = name; blob = sealed (key_of (key_named bag.keys name)) (text_to_seal value) vector }

-- a bag has the keys of the locks of all offers of a type, given the name that is wanted
abbrev pub have_locks : Bag → Kind → Option (List ℕ) → List Offer → Bool
have_locks bag kind name offers = list_all (λ offer. has_lock bag (lock_for kind name offer.value)) offers

-- an offer as an entity that is sealed under the key of this name with a vector
abbrev pub sealed_entity : Bag → Kind → Offer → List ℕ → List ℕ → Entity
sealed_entity bag kind offer lock vector =
    entity_with kind offer (specifics_around kind offer.value (text_under bag lock vector offer.value))

-- the entity that the next of some vectors makes, and those that the later ones make; none where no vector is left
abbrev pub with_next : (List ℕ → Entity) → (List (List ℕ) → List Entity) → List (List ℕ) → List Entity
with_next entity rest [] = []
with_next entity rest (vector ∷ later) = entity vector ∷ rest later

-- an offer as an entity, and those after it, given the name of the key that seals it, if one does
abbrev pub with_first : Bag → Kind → Offer → (List (List ℕ) → List Entity) → List (List ℕ) → Option (List ℕ) → List Entity
with_first bag kind offer rest vectors None = entity_with kind offer (plain_specifics kind offer.value) ∷ rest vectors
with_first bag kind offer rest vectors (Some lock) = with_next (sealed_entity bag kind offer lock) rest vectors

-- some offers as entities, in their order, each that a key seals with the next of these vectors
unfoldable pub entities_for : Bag → Kind → Option (List ℕ) → List (List ℕ) → List Offer → List Entity
entities_for bag kind name vectors [] = []
entities_for bag kind name vectors (offer ∷ offers) =
    with_first bag kind offer (λ later. entities_for bag kind name later offers) vectors (lock_for kind name offer.value)

-- so many vectors were drawn, in this order; where the place of what draws them is told, they are those from there on
pub record AreDrawn (before now : Option Place) (count : ℕ) (vectors : List (List ℕ)) : Type 0 where
  pub are_many : length vectors ≡ count
  pub are_next : IfSome before (λ place. vectors ≡ vectors_from place count)
  pub moved : now ≡ option_map (after_draws count) before

-- what is sent of some offers of a type under the name that is wanted: an entity for each, and one vector drawn for
-- each that is sealed
pub record IsSentUnder (bag : Bag) (kind : Kind) (name : Option (List ℕ)) (offers : List Offer) (before now : Option Place) (entities : List Entity) : Type 0 where
  pub vectors : List (List ℕ)
  pub are_drawn : AreDrawn before now (drawn_for kind name 0 offers) vectors
  pub are_entities : entities ≡ entities_for bag kind name vectors offers

-- what a worker sends of some offers
abbrev pub IsSent : Held → Bag → Bool → List Offer → Option Place → Option Place → List Entity → Type 0
IsSent held bag seals offers = IsSentUnder bag held.kind (wanted_name bag seals held.kind) offers

-- some vectors were drawn, so many at most
pub record MayHaveDrawn (most : ℕ) (before now : Option Place) : Type 0 where
  pub count : ℕ
  pub at_most : count ≤ most
  pub moved : now ≡ option_map (after_draws count) before

-- nothing is sent, and nothing drawn
pub record IsNotSent (before now : Option Place) (entities : List Entity) : Type 0 where
  pub none : entities ≡ []
  pub undrawn : now ≡ before

-- what is sent of some offers, or nothing where they are held back, as this test tells
abbrev pub IsContributionBy : Bool → Held → Bag → Bool → List Offer → Option Place → Option Place → List Entity → Type 0
IsContributionBy true held bag seals offers before now entities = IsNotSent before now entities
IsContributionBy false held bag seals offers before now entities = IsSent held bag seals offers before now entities

-- what is sent of some offers, or nothing where they are held back
abbrev pub IsContribution : Held → Bag → Bool → List Offer → Option Place → Option Place → List Entity → Type 0
IsContribution held bag seals offers = IsContributionBy (is_held_back held bag seals offers) held bag seals offers
