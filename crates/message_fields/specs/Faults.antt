-- The first fault of a message.
use Rattle.std.specs.Prelude.{◌≡◌, ◌⊎◌, ℕ, Bool, true, false, ◌==◌, ◌||◌, ◌&&◌, not, nat_lt, if◌then◌else◌, List, Option, Some, None, Result, Ok, Err}
use Rattle.std.specs.List.{find, fold, list_any}
use Rattle.message_fields.specs.declared.fault.MessageFault.{MessageFault}
use Rattle.message_fields.specs.declared.fault.MessageReason.{MessageReason}
use Rattle.message_fields.specs.declared.fault.MessageReason.TheVariants.{Wire, Missing, WrongKind, Range, BadToken, NoMemory}
use Rattle.message_fields.specs.declared.field.Held.{Held}
use Rattle.message_fields.specs.declared.field.Held.TheVariants.{Varint, Bytes, Group}
use Rattle.message_fields.specs.declared.field.Known.{Known}
use Rattle.message_fields.specs.declared.field.WireKind.{WireKind}
use Rattle.message_fields.specs.declared.field.WireKind.TheVariants as kinds
use Rattle.message_fields.specs.declared.field.PlacedField.{PlacedField}
use Rattle.message_fields.specs.declared.message.Message.{Message}
use Rattle.message_fields.specs.Lookups.{has, last_of}

-- the classes of faults, in the order in which they are told
abbrev pub class_of : MessageReason → ℕ
class_of (Wire reason) = 0
class_of (WrongKind field) = 1
class_of (Range field) = 1
class_of (BadToken len) = 1
class_of (Missing field) = 2
class_of NoMemory = 3

-- a fault is told before another one: by its class, then by its place
abbrev pub comes_before : MessageFault → MessageFault → Bool
comes_before fault other =
    nat_lt (class_of fault.reason) (class_of other.reason)
    || (class_of fault.reason == class_of other.reason && nat_lt fault.at other.at)

-- the one of two faults that is told; of two that stand alike, the first
abbrev pub first_of : Option MessageFault → Option MessageFault → Option MessageFault
first_of None other = other
first_of (Some fault) None = Some fault
first_of (Some fault) (Some other) = if comes_before other fault then Some other else Some fault

-- the one of these faults that is told
abbrev pub first_fault : List (Option MessageFault) → Option MessageFault
first_fault faults = fold first_of None faults

-- a field holds what this wire kind has
abbrev pub is_of_kind : WireKind → Held → Bool
is_of_kind kinds.Varint (Varint value) = true
is_of_kind kinds.Bytes (Bytes part) = true
is_of_kind kinds.Group (Group part) = true
is_of_kind kind held = false

-- a field of the table that has another wire kind
abbrev pub is_of_wrong_kind : List Known → PlacedField → Bool
is_of_wrong_kind known field =
    list_any (λ (entry : Known). entry.0 == field.number && not (is_of_kind entry.1 field.held)) known

-- a fault at a field's header
abbrev pub fault_at : PlacedField → MessageReason → MessageFault
fault_at field reason = record { at = field.at; reason = reason }

-- the fault of a field that has another wire kind than the table gives it
abbrev pub kind_fault : Option PlacedField → Option MessageFault
kind_fault None = None
kind_fault (Some field) = Some (fault_at field (WrongKind field.number))

-- the first field of another wire kind than the table gives it
abbrev pub wrong_kind : List Known → Message → Option MessageFault
wrong_kind known message = kind_fault (find (is_of_wrong_kind known) message.fields)

-- the fault of bytes that are no fields
abbrev pub wire_fault : Message → Option MessageFault
wire_fault message = elim message.wire_fault as (λ fault. Option MessageFault) [
  | None ↦ None
  | Some fault ↦ Some (record { at = fault.at; reason = Wire fault.reason })
]

-- a field is not there that has to be
abbrev pub missing : ℕ → Message → Option MessageFault
missing number message =
    if has number message.fields then None else Some (record { at = message.end; reason = Missing number })

-- the field that counts has a value that the message may not have
abbrev pub fault_of : ℕ → MessageReason → Message → Option MessageFault
fault_of number reason message = elim (last_of number message.fields) as (λ found. Option MessageFault) [
  | None ↦ None
  | Some field ↦ Some (fault_at field reason)
]

-- memory was wanting
abbrev pub no_memory : MessageFault
no_memory = record { at = 0; reason = NoMemory }

-- what a message says where no fault is told, else the fault
abbrev pub said_unless : {A : Type 0} → Option MessageFault → A → Result A MessageFault
said_unless None value = Ok value
said_unless (Some fault) value = Err fault

-- a decoder's answer is what the bytes say, or that memory was wanting
abbrev pub Answered : {A : Type 0} → (Result A MessageFault → Type 0) → Result A MessageFault → Type 0
Answered Says (Ok value) = Says (Ok value)
Answered Says (Err fault) = (fault ≡ no_memory) ⊎ Says (Err fault)
