-- The tables of messages: which fields they have, and of which wire kind.
use Rattle.std.specs.Prelude.{ℕ}
use Rattle.message_fields.specs.declared.field.Known.{Known}
use Rattle.message_fields.specs.declared.field.WireKind.TheVariants as kinds

-- a field that holds a varint
abbrev pub varint : ℕ → Known
varint number = record { 0 = number; 1 = kinds.Varint }

-- a field that holds bytes, or a message
abbrev pub bytes : ℕ → Known
bytes number = record { 0 = number; 1 = kinds.Bytes }

-- a field that is a group
abbrev pub group : ℕ → Known
group number = record { 0 = number; 1 = kinds.Group }
