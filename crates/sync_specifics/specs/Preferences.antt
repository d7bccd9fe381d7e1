-- A preference as a message by itself.
use Rattle.std.specs.Prelude.{◌≡◌, ℕ, List, [], ◌∷◌, ◌++◌, Option, Result}
use Rattle.wire_format.specs.Spellings.{bytes_field}
use Rattle.message_fields.specs.declared.field.Known.{Known}
use Rattle.message_fields.specs.declared.message.Message.{Message}
use Rattle.message_fields.specs.declared.fault.MessageFault.{MessageFault}
use Rattle.message_fields.specs.Fields.{whole_of}
use Rattle.message_fields.specs.Readings.{IsWholeReading}
use Rattle.message_fields.specs.Unknown.{extra_of}
use Rattle.message_fields.specs.Tables.{bytes}
use Rattle.message_fields.specs.Lookups.{bytes_of}
use Rattle.message_fields.specs.Faults.{first_fault, wire_fault, wrong_kind, missing, said_unless}
use Rattle.sync_values.specs.declared.value.Preference.{Preference}

-- its fields
abbrev pub preference_fields : List Known
preference_fields = bytes 1 ∷ bytes 2 ∷ []

-- what is at fault in it: both fields have to be there
abbrev pub preference_fault : Message → Option MessageFault
preference_fault message =
    first_fault (wire_fault message ∷ wrong_kind preference_fields message ∷ missing 1 message ∷ missing 2 message ∷ [])

-- what it says
abbrev pub preference_of : List ℕ → Message → Preference
preference_of input message = record {
  name = bytes_of input 1 message.fields;
  value = bytes_of input 2 message.fields;
  extra = extra_of preference_fields input message.fields;
}

-- what these bytes say as a preference
pub record SaysPreference (input : List ℕ) (said : Result Preference MessageFault) : Type 0 where
  pub message : Message
  pub is_reading : IsWholeReading input (whole_of input ∷ []) message
  pub is_said : said ≡ said_unless (preference_fault message) (preference_of input message)

-- its bytes: those of its fields, and then its extra
abbrev pub preference_bytes : Preference → List ℕ
preference_bytes preference = bytes_field 1 preference.name ++ bytes_field 2 preference.value ++ preference.extra
