-- The tasks of a client that nothing seals.
use Rattle.std.specs.Prelude.{◌≡◌, [], None}
use Rattle.std.specs.List.{AllByRecursion}
use Rattle.client_tags.specs.declared.Kind.TheVariants.{Preference as preference_kind}
use Rattle.sync_model.specs.declared.message.Ack.{Ack}
use Rattle.sync_model.specs.declared.message.Task.{Task}
use Rattle.sync_model.specs.declared.message.Task.TheVariants.{Batch as Updating, Acks}
use Rattle.sync_model.specs.declared.message.Update.{Update}
use Rattle.type_processor.specs.Fits.{IsUpdateOf, IsAckOf}
use Rattle.replay_messages.specs.Forms.{IsPlainValue}

-- an update of a preference that nothing seals
pub record IsPlainUpdate (update : Update) : Type 0 where
  pub fits : IsUpdateOf preference_kind update
  pub value : IsPlainValue update.value
  pub unlocked : update.lock ≡ None

-- an acknowledgement of a preference
pub record IsPlainAck (ack : Ack) : Type 0 where
  pub fits : IsAckOf preference_kind ack
  pub value : IsPlainValue ack.value

-- a task of preferences that nothing seals
abbrev pub IsPlainTask : Task → Type 0
IsPlainTask (Updating batch) = AllByRecursion IsPlainUpdate batch.updates
IsPlainTask (Acks acks) = AllByRecursion IsPlainAck acks

-- a task that speaks of no key
abbrev pub IsIdleTask : Task → Type 0
IsIdleTask (Updating batch) = batch.updates ≡ []
IsIdleTask (Acks acks) = acks ≡ []
