-- The data of a login as a message by itself.
use Rattle.std.specs.Prelude.{◌≡◌, ℕ, List, [], ◌∷◌, ◌++◌, Option, Result}
use Rattle.std.specs.Int.{w64, cast_signed, cast_unsigned}
use Rattle.wire_format.specs.Spellings.{bytes_field}
use Rattle.message_fields.specs.declared.field.Known.{Known}
use Rattle.message_fields.specs.declared.message.Message.{Message}
use Rattle.message_fields.specs.declared.fault.MessageFault.{MessageFault}
use Rattle.message_fields.specs.Fields.{whole_of}
use Rattle.message_fields.specs.Readings.{IsWholeReading}
use Rattle.message_fields.specs.Unknown.{extra_of}
use Rattle.message_fields.specs.Tables.{bytes, varint}
use Rattle.message_fields.specs.Written.{varint_unless_zero}
use Rattle.message_fields.specs.Lookups.{bytes_of, number_or}
use Rattle.message_fields.specs.Faults.{first_fault, wire_fault, wrong_kind, missing, said_unless}
use Rattle.sync_values.specs.declared.value.Password.{Password}

-- its fields: realm, origin, name and value of the user's element, name and value of the password's, when it was made
abbrev pub login_fields : List Known
login_fields = bytes 2 ∷ bytes 3 ∷ bytes 5 ∷ bytes 6 ∷ bytes 7 ∷ bytes 8 ∷ varint 11 ∷ []

-- what is at fault in it: all texts have to be there
abbrev pub login_fault : Message → Option MessageFault
login_fault message =
    first_fault (wire_fault message ∷ wrong_kind login_fields message ∷ missing 2 message ∷ missing 3 message
    ∷ missing 5 message ∷ missing 6 message ∷ missing 7 message ∷ missing 8 message ∷ [])

-- what it says
abbrev pub login_of : List ℕ → Message → Password
login_of input message = record {
  origin = bytes_of input 3 message.fields;
  user_element = bytes_of input 5 message.fields;
  user_value = bytes_of input 6 message.fields;
  pass_element = bytes_of input 7 message.fields;
  realm = bytes_of input 2 message.fields;
  secret = bytes_of input 8 message.fields;
  created = cast_signed w64 (number_or 0 11 message.fields);
  extra = extra_of login_fields input message.fields;
}

-- what these bytes say as a login
pub record SaysLogin (input : List ℕ) (said : Result Password MessageFault) : Type 0 where
  pub message : Message
  pub is_reading : IsWholeReading input (whole_of input ∷ []) message
  pub is_said : said ≡ said_unless (login_fault message) (login_of input message)

-- its bytes: those of its fields, and then its extra
abbrev pub login_bytes : Password → List ℕ
login_bytes login =
    bytes_field 2 login.realm ++ bytes_field 3 login.origin ++ bytes_field 5 login.user_element
    ++ bytes_field 6 login.user_value ++ bytes_field 7 login.pass_element ++ bytes_field 8 login.secret
    ++ varint_unless_zero 11 (cast_unsigned w64 login.created) ++ login.extra
