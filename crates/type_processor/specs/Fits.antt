-- What a type's tasks, key states and offers may hold.
use Rattle.std.specs.Prelude.{◌≡◌, ℕ, ◌≤◌, ◌-◌, ◌^◌, ◌||◌, Bool, IsTrue, IfSome, List}
use Rattle.std.specs.List.{AllByRecursion}
use Rattle.client_tags.specs.declared.Kind.{Kind}
use Rattle.client_tags.specs.Hashes.{IsHash}
use Rattle.sync_values.specs.declared.value.Value.{Value}
use Rattle.sync_model.specs.declared.message.Ack.{Ack}
use Rattle.sync_model.specs.declared.message.Offer.{Offer}
use Rattle.sync_model.specs.declared.message.Task.{Task}
use Rattle.sync_model.specs.declared.message.Task.TheVariants.{Batch as Updating, Acks}
use Rattle.sync_model.specs.declared.message.Update.{Update}
use Rattle.sync_model.specs.declared.state.KeyState.{KeyState}
use Rattle.sync_model.specs.Sides.{States, state_at}
use Rattle.sync_model.specs.Values.{is_absent, is_value_of}

-- the last version that there is
abbrev pub LAST_VERSION : ℕ
LAST_VERSION = 2 ^ 63 - 1

-- an entity of a type may have a value: none, or one of the type
abbrev pub may_have : Kind → Value → Bool
may_have kind value = is_absent value || is_value_of kind value

-- an update of an entity of a type
pub record IsUpdateOf (kind : Kind) (update : Update) : Type 0 where
  pub version : update.version ≤ LAST_VERSION
  pub value : IsTrue (may_have kind update.value)

-- an acknowledgement of an edit of a type
pub record IsAckOf (kind : Kind) (ack : Ack) : Type 0 where
  pub version : ack.version ≤ LAST_VERSION
  pub value : IsTrue (may_have kind ack.value)

-- a task of a type: each of its updates, or of its acknowledgements, is of the type
abbrev pub IsTaskOf : Kind → Task → Type 0
IsTaskOf kind (Updating batch) = AllByRecursion (IsUpdateOf kind) batch.updates
IsTaskOf kind (Acks acks) = AllByRecursion (IsAckOf kind) acks

-- an offer of an entity of a type
pub record IsOfferOf (kind : Kind) (offer : Offer) : Type 0 where
  pub hash : IsHash offer.hash
  pub known : offer.known ≤ LAST_VERSION
  pub value : IsTrue (may_have kind offer.value)

-- an offer is of a key's last edit, and has its own value
pub record IsOwnOffer (states : States) (offer : Offer) : Type 0 where
  pub number : offer.number ≡ (state_at states offer.hash).last_edit
  pub value : offer.value ≡ (state_at states offer.hash).own

-- each offer has a hash of twenty bytes
abbrev pub OffersHaveHashes : List Offer → Type 0
OffersHaveHashes offers = AllByRecursion (λ offer. IsHash offer.hash) offers

-- the state of a key of a type, whose edits have numbers up to the last one; what is due is the key's last edit
pub record IsStateOf (kind : Kind) (last : ℕ) (key : List ℕ × KeyState) : Type 0 where
  pub known : key.1.known ≤ LAST_VERSION
  pub base : IsTrue (may_have kind key.1.base)
  pub own : IsTrue (may_have kind key.1.own)
  pub edit : key.1.last_edit ≤ last
  pub due : IfSome key.1.due (λ (number : ℕ). number ≡ key.1.last_edit)

-- the states of keys of a type, whose edits have numbers up to the last one
abbrev pub AreStatesOf : Kind → ℕ → States → Type 0
AreStatesOf kind last states = AllByRecursion (IsStateOf kind last) states
