-- What an attempt to open something answers.
use Rattle.std.specs.Prelude.{Result, Ok, Err}
use Rattle.key_bag.specs.declared.fault.AnyFault.{AnyFault}
use Rattle.key_bag.specs.declared.fault.AnyFault.TheVariants as faults
use Rattle.key_bag.specs.Bags.{Bag}
use Rattle.message_fields.specs.declared.fault.MessageFault.{MessageFault}
use Rattle.message_fields.specs.declared.fault.MessageReason.{MessageReason}
use Rattle.message_fields.specs.declared.fault.MessageReason.TheVariants as reasons
use Rattle.sync_values.specs.declared.value.Value.{Value}
use Rattle.sync_specifics.specs.declared.sealed.Sealed.{Sealed}
use Rattle.sync_specifics.specs.declared.specifics.Specifics.{Specifics}
use Rattle.type_worker.specs.declared.blocked.BlockCause.{BlockCause}
use Rattle.type_worker.specs.declared.blocked.BlockCause.TheVariants as causes
use Rattle.type_worker.specs.declared.open_fault.OpenFault.{OpenFault}
use Rattle.type_worker.specs.declared.open_fault.OpenFault.TheVariants.{Shut, NoMemory}
use Rattle.type_worker.specs.Opening.{OpensTo, IsShut}

-- why a text that was not unsealed does not open; want of memory is no cause
abbrev pub shut_by : AnyFault → OpenFault
shut_by (faults.NoKey name) = Shut (causes.NoKey name)
shut_by (faults.Unseal fault) = Shut (causes.Unseal fault)
shut_by faults.NoMemory = NoMemory

-- a fault for a reason as what shuts a text
abbrev pub shut_for : MessageFault → MessageReason → OpenFault
shut_for fault reasons.NoMemory = NoMemory
shut_for fault _ = Shut (causes.Content fault)

-- why an unsealed text does not open; want of memory is no cause
abbrev pub shut_within : MessageFault → OpenFault
shut_within fault = shut_for fault fault.reason

-- under a bag specifics do not open because of this, and they say no value
pub record IsShutAlone (bag : Bag) (specifics : Specifics) (cause : BlockCause) : Type 0 where
  pub sealed : Sealed
  pub is_shut : IsShut bag specifics sealed cause
  pub says_nothing : (value : Value) → ¬ OpensTo bag specifics value

-- what an attempt to open specifics under a bag answers: their value, or why they have none, but for want of memory
abbrev pub IsOpened : Bag → Specifics → Result Value OpenFault → Type 0
IsOpened bag specifics (Ok value) = OpensTo bag specifics value
IsOpened bag specifics (Err (Shut cause)) = IsShutAlone bag specifics cause
IsOpened bag specifics (Err NoMemory) = Unit {0}
