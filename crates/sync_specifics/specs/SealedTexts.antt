-- An encrypted text as a message: the name of its key, and itself.
use Rattle.std.specs.Prelude.{ℕ, List, [], ◌∷◌, ◌++◌, Option}
use Rattle.wire_format.specs.Spellings.{bytes_field}
use Rattle.message_fields.specs.declared.field.Known.{Known}
use Rattle.message_fields.specs.declared.message.Message.{Message}
use Rattle.message_fields.specs.declared.fault.MessageFault.{MessageFault}
use Rattle.message_fields.specs.Tables.{bytes}
use Rattle.message_fields.specs.Lookups.{bytes_of}
use Rattle.message_fields.specs.Faults.{first_fault, wire_fault, wrong_kind, missing}
use Rattle.sync_specifics.specs.declared.sealed.Sealed.{Sealed}

-- its fields
abbrev pub sealed_fields : List Known
sealed_fields = bytes 1 ∷ bytes 2 ∷ []

-- what is at fault in it: both fields have to be there
abbrev pub sealed_fault : Message → Option MessageFault
sealed_fault message =
    first_fault (wire_fault message ∷ wrong_kind sealed_fields message ∷ missing 1 message ∷ missing 2 message ∷ [])

-- what it says
abbrev pub sealed_of : List ℕ → Message → Sealed
sealed_of input message = record { key_name = bytes_of input 1 message.fields; blob = bytes_of input 2 message.fields }

-- its bytes
abbrev pub sealed_bytes : Sealed → List ℕ
sealed_bytes sealed = bytes_field 1 sealed.key_name ++ bytes_field 2 sealed.blob
