-- An offer as it is sent.
use Rattle.std.specs.Prelude.{◌≡◌, ℕ, List, Option, Some, None, option_map, IfSome}
use Rattle.client_tags.specs.declared.Kind.{Kind}
use Rattle.sync_messages.specs.declared.message.Entity.{Entity}
use Rattle.key_bag.specs.Bags.{Bag}
use Rattle.sync_model.specs.declared.message.Offer.{Offer}
use Rattle.random_vectors.specs.Vectors.{Place, vector_at, after_draw}
use Rattle.replay_messages.specs.Sealed.{plain_specifics}
use Rattle.type_worker.specs.Sending.{entity_with, sealed_entity}

-- one vector was drawn; where the place of what draws it is told, it is the one there
pub record IsDrawn (before now : Option Place) (vector : List ℕ) : Type 0 where
  pub is_next : IfSome before (λ place. vector ≡ vector_at place)
  pub moved : now ≡ option_map after_draw before

-- an offer that no key seals is sent as this entity, and nothing is drawn
pub record IsSentPlain (kind : Kind) (offer : Offer) (before now : Option Place) (entity : Entity) : Type 0 where
  pub is_entity : entity ≡ entity_with kind offer (plain_specifics kind offer.value)
  pub undrawn : now ≡ before

-- an offer is sent as this entity, sealed under the key of this name with a vector that is drawn for it
pub record IsSentSealed (bag : Bag) (kind : Kind) (offer : Offer) (lock : List ℕ) (before now : Option Place) (entity : Entity) : Type 0 where
  pub vector : List ℕ
  pub is_drawn : IsDrawn before now vector
  pub is_entity : entity ≡ sealed_entity bag kind offer lock vector

-- an offer is sent as this entity, given the name of the key that seals it, if one does
abbrev pub IsSentBy : Bag → Kind → Offer → Option (List ℕ) → Option Place → Option Place → Entity → Type 0
IsSentBy bag kind offer None before now entity = IsSentPlain kind offer before now entity
IsSentBy bag kind offer (Some lock) before now entity = IsSentSealed bag kind offer lock before now entity
