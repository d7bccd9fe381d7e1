-- What an entity holds as a message: the field of its type, and an encrypted text beside it.
use Rattle.std.specs.Prelude.{◌≡◌, ℕ, Bool, ◌||◌, if◌then◌else◌, List, [], ◌∷◌, ◌++◌, Option, Some, None, Result}
use Rattle.std.specs.List.{filter_map, last_or}
use Rattle.wire_format.specs.Spellings.{bytes_field, varint_field}
use Rattle.client_tags.specs.declared.Kind.{Kind}
use Rattle.client_tags.specs.declared.Kind.TheVariants as kinds
use Rattle.client_tags.specs.Kinds.{kind_number, kind_of_number}
use Rattle.message_fields.specs.declared.field.Known.{Known}
use Rattle.message_fields.specs.declared.field.Part.{Part}
use Rattle.message_fields.specs.declared.field.PlacedField.{PlacedField}
use Rattle.message_fields.specs.declared.message.Message.{Message}
use Rattle.message_fields.specs.declared.fault.MessageFault.{MessageFault}
use Rattle.message_fields.specs.declared.fault.MessageReason.TheVariants.{Range}
use Rattle.message_fields.specs.Fields.{whole_of}
use Rattle.message_fields.specs.Readings.{IsReading, IsWholeReading}
use Rattle.message_fields.specs.Tables.{bytes, varint}
use Rattle.message_fields.specs.Lookups.{has, number_or, parts_of, AreWithin}
use Rattle.message_fields.specs.Faults.{first_fault, wire_fault, wrong_kind, fault_of, said_unless}
use Rattle.sync_values.specs.declared.value.PassKind.{PassKind}
use Rattle.sync_values.specs.declared.value.PassKind.TheVariants.{Implicit}
use Rattle.sync_values.specs.PassKinds.{pass_kind_number, pass_kind_of_number}
use Rattle.sync_specifics.specs.declared.specifics.NigoriContent.{NigoriContent}
use Rattle.sync_specifics.specs.declared.specifics.Specifics.{Specifics}
use Rattle.sync_specifics.specs.declared.specifics.Specifics.TheVariants.{EmptyOf, Preference, SealedPreference, Password, Nigori}
use Rattle.sync_specifics.specs.declared.fields.SpecificsFields.{SpecificsFields}
use Rattle.sync_specifics.specs.SealedTexts.{sealed_fields, sealed_fault, sealed_of, sealed_bytes}
use Rattle.sync_specifics.specs.Preferences.{preference_fields, preference_fault, preference_of, preference_bytes}

-- its fields: an encrypted text, and a message for each type
abbrev pub specifics_fields : List Known
specifics_fields = bytes 1 ∷ bytes 37702 ∷ bytes 45873 ∷ bytes 47745 ∷ []

-- the fields of a login's message: an encrypted text
abbrev pub password_fields : List Known
password_fields = bytes 1 ∷ []

-- the fields of the keys' message: an encrypted text, and the kind of the passphrase
abbrev pub nigori_fields : List Known
nigori_fields = bytes 1 ∷ varint 30 ∷ []

-- the messages in these pieces of specifics
pub record AreSpecificsFields (input : List ℕ) (parts : List Part) (all : SpecificsFields) : Type 0 where
  pub own : IsReading specifics_fields input parts all.own
  pub sealed : IsReading sealed_fields input (parts_of 1 all.own.fields) all.sealed
  pub preference : IsWholeReading input (parts_of 37702 all.own.fields) all.preference
  pub password : IsReading password_fields input (parts_of 45873 all.own.fields) all.password
  pub sealed_password : IsReading sealed_fields input (parts_of 1 all.password.fields) all.sealed_password
  pub nigori : IsReading nigori_fields input (parts_of 47745 all.own.fields) all.nigori
  pub sealed_keys : IsReading sealed_fields input (parts_of 1 all.nigori.fields) all.sealed_keys

-- the contents of all these messages stand within the input
pub record AreAllWithin (input : List ℕ) (all : SpecificsFields) : Type 0 where
  pub own : AreWithin input all.own.fields
  pub sealed : AreWithin input all.sealed.fields
  pub preference : AreWithin input all.preference.fields
  pub password : AreWithin input all.password.fields
  pub sealed_password : AreWithin input all.sealed_password.fields
  pub nigori : AreWithin input all.nigori.fields
  pub sealed_keys : AreWithin input all.sealed_keys.fields

-- the type that the last type field names
abbrev pub type_of : List PlacedField → Option Kind
type_of fields = last_or None (filter_map (λ (field : PlacedField). kind_of_number field.number) fields)

-- the kind of the passphrase; without a number, or with one that is a fault, it is implicit
abbrev pub pass_kind_or_implicit : Option PassKind → PassKind
pass_kind_or_implicit None = Implicit
pass_kind_or_implicit (Some kind) = kind

-- what is at fault in the encrypted text of a message, where it has one
abbrev pub sealed_fault_in : Message → Message → Option MessageFault
sealed_fault_in message sealed = if has 1 message.fields then sealed_fault sealed else None

-- a preference has a name or a value
abbrev pub is_plain : Message → Bool
is_plain preference = has 1 preference.fields || has 2 preference.fields

-- what is at fault in a preference's message that stands by itself: one of its fields alone
abbrev pub plain_fault : Message → Option MessageFault
plain_fault preference =
    if is_plain preference then preference_fault preference
    else first_fault (wire_fault preference ∷ wrong_kind preference_fields preference ∷ [])

-- what is at fault in the message of a preference; beside an encrypted text it is looked at as fields alone
abbrev pub preference_type_fault : SpecificsFields → Option MessageFault
preference_type_fault all = if has 1 all.own.fields then wire_fault all.preference else plain_fault all.preference

-- what is at fault in the message of a login
abbrev pub password_type_fault : SpecificsFields → Option MessageFault
password_type_fault all =
    first_fault (sealed_fault_in all.password all.sealed_password ∷ wire_fault all.password
    ∷ wrong_kind password_fields all.password ∷ [])

-- the kind of the passphrase has a number that is none of one
abbrev pub pass_kind_fault : Message → Option MessageFault
pass_kind_fault nigori = elim (pass_kind_of_number (number_or 1 30 nigori.fields)) as (λ kind. Option MessageFault) [
  | None ↦ fault_of 30 (Range 30) nigori
  | Some kind ↦ None
]

-- what is at fault in the message of the keys
abbrev pub nigori_type_fault : SpecificsFields → Option MessageFault
nigori_type_fault all =
    first_fault (sealed_fault_in all.nigori all.sealed_keys ∷ wire_fault all.nigori ∷ wrong_kind nigori_fields all.nigori
    ∷ pass_kind_fault all.nigori ∷ [])

-- what is at fault in the message of the type that counts
abbrev pub type_fault : SpecificsFields → Option Kind → Option MessageFault
type_fault all None = None
type_fault all (Some kinds.Nigori) = nigori_type_fault all
type_fault all (Some kinds.Preference) = preference_type_fault all
type_fault all (Some kinds.Password) = password_type_fault all

-- what is at fault in specifics; the messages of other types are looked at as fields alone
abbrev pub specifics_fault : SpecificsFields → Option MessageFault
specifics_fault all =
    first_fault (sealed_fault_in all.own all.sealed ∷ type_fault all (type_of all.own.fields) ∷ wire_fault all.preference
    ∷ wire_fault all.password ∷ wire_fault all.nigori ∷ wire_fault all.own ∷ wrong_kind specifics_fields all.own ∷ [])

-- a preference: sealed, plain, or empty
abbrev pub preference_specifics : List ℕ → SpecificsFields → Specifics
preference_specifics input all =
    if has 1 all.own.fields then SealedPreference (sealed_of input all.sealed)
    else if is_plain all.preference then Preference (preference_of input all.preference)
    else EmptyOf kinds.Preference

-- a login: sealed, or empty
abbrev pub password_specifics : List ℕ → SpecificsFields → Specifics
password_specifics input all =
    if has 1 all.password.fields then Password (sealed_of input all.sealed_password) else EmptyOf kinds.Password

-- the keys: sealed, or empty
abbrev pub nigori_specifics : List ℕ → SpecificsFields → Specifics
nigori_specifics input all =
    if has 1 all.nigori.fields
    then Nigori (record {
      bag = sealed_of input all.sealed_keys;
      pass_kind = pass_kind_or_implicit (pass_kind_of_number (number_or 1 30 all.nigori.fields));
    })
    else EmptyOf kinds.Nigori

-- what specifics say, by the type that counts; nothing without a type
abbrev pub specifics_of_type : List ℕ → SpecificsFields → Option Kind → Option Specifics
specifics_of_type input all None = None
specifics_of_type input all (Some kinds.Nigori) = Some (nigori_specifics input all)
specifics_of_type input all (Some kinds.Preference) = Some (preference_specifics input all)
specifics_of_type input all (Some kinds.Password) = Some (password_specifics input all)

-- what specifics say
abbrev pub specifics_of : List ℕ → SpecificsFields → Option Specifics
specifics_of input all = specifics_of_type input all (type_of all.own.fields)

-- what these bytes say as specifics
pub record SaysSpecifics (input : List ℕ) (said : Result (Option Specifics) MessageFault) : Type 0 where
  pub all : SpecificsFields
  pub are_fields : AreSpecificsFields input (whole_of input ∷ []) all
  pub is_said : said ≡ said_unless (specifics_fault all) (specifics_of input all)

-- the bytes of the keys' message
abbrev pub nigori_bytes : NigoriContent → List ℕ
nigori_bytes nigori = bytes_field 1 (sealed_bytes nigori.bag) ++ varint_field 30 (pass_kind_number nigori.pass_kind)

-- the bytes of specifics: a sealed preference has an empty message of its type beside it
abbrev pub specifics_bytes : Specifics → List ℕ
specifics_bytes (EmptyOf kind) = bytes_field (kind_number kind) []
specifics_bytes (Preference preference) = bytes_field 37702 (preference_bytes preference)
specifics_bytes (SealedPreference sealed) = bytes_field 1 (sealed_bytes sealed) ++ bytes_field 37702 []
specifics_bytes (Password sealed) = bytes_field 45873 (bytes_field 1 (sealed_bytes sealed))
specifics_bytes (Nigori nigori) = bytes_field 47745 (nigori_bytes nigori)
