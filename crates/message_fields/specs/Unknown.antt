-- The fields of a message that its table lacks, as they are spelled.
use Rattle.std.specs.Prelude.{◌≡◌, ℕ, ◌-◌, Bool, ◌==◌, ◌&&◌, not, List, ◌++◌, length}
use Rattle.std.specs.List.{filter, flat_map}
use Rattle.wire_format.specs.Spellings.{header_of, varint_field, bytes_field, group_field}
use Rattle.message_fields.specs.declared.field.Held.{Held}
use Rattle.message_fields.specs.declared.field.Held.TheVariants.{Varint, Eight, Bytes, Group, Four}
use Rattle.message_fields.specs.declared.field.Known.{Known}
use Rattle.message_fields.specs.declared.field.PlacedField.{PlacedField}
use Rattle.message_fields.specs.Fields.{bytes_in, AreFieldsIn}
use Rattle.message_fields.specs.Readings.{is_known}

-- a field of this number with what it holds in the input: headers, numbers and lengths are of least length, and contents are unchanged
abbrev pub spelled_held : List ℕ → ℕ → Held → List ℕ
spelled_held input number (Varint value) = varint_field number value
spelled_held input number (Eight part) = header_of number 1 ++ bytes_in input part
spelled_held input number (Bytes part) = bytes_field number (bytes_in input part)
spelled_held input number (Group part) = group_field number (bytes_in input part)
spelled_held input number (Four part) = header_of number 5 ++ bytes_in input part

-- the least spelling of a field whose content stands in the input
abbrev pub spelled : List ℕ → PlacedField → List ℕ
spelled input field = spelled_held input field.number field.held

-- the table has no field of this number
abbrev pub is_unknown : List Known → PlacedField → Bool
is_unknown known field = not (is_known known field)

-- the spelling of the fields that a table lacks, in their order
abbrev pub extra_of : List Known → List ℕ → List PlacedField → List ℕ
extra_of known input fields = flat_map (spelled input) (filter (is_unknown known) fields)

-- the table lacks a field that ends at this place of the input, and no spelling of it is shorter
abbrev pub is_least : List Known → List ℕ → PlacedField → ℕ → Bool
is_least known input field end = is_unknown known field && (length (spelled input field) == end - field.at)

-- these bytes are the extra of the message that they are by themselves
pub record IsCanonicalExtra (known : List Known) (extra : List ℕ) : Type 0 where
  pub fields : List PlacedField
  pub are_fields : AreFieldsIn extra 0 fields (length extra)
  pub is_extra : extra_of known extra fields ≡ extra
