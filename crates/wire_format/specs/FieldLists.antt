-- Lists of fields, as they are read one by one.
use Rattle.std.specs.Prelude.{◌≡◌, ℕ, ◌+◌, List, [], ◌∷◌, drop}
use Rattle.wire_format.specs.declared.field.Field.{Field}
use Rattle.wire_format.specs.declared.field.Payload.{Payload}
use Rattle.wire_format.specs.declared.field.Payload.TheVariants.{Varint, Eight, Bytes, Group, Four}
use Rattle.wire_format.specs.Fields.{IsFieldAt}

-- this field stands at the front of these bytes, whose place is given, and something follows from there on
pub record IsFollowed (Follow : ℕ → List ℕ → Type 0) (at : ℕ) (bytes : List ℕ) (field : Field) : Type 0 where
  pub size : ℕ
  pub is_field : IsFieldAt bytes size field.number field.payload
  pub is_place : field.at ≡ at
  pub is_followed : Follow (at + size) (drop size bytes)

-- these bytes, whose front has this place, are these fields, one after another
abbrev pub AreTheseFields : List Field → ℕ → List ℕ → Type 0
AreTheseFields [] at bytes = bytes ≡ []
AreTheseFields (field ∷ fields) at bytes = IsFollowed (λ place rest. AreTheseFields fields place rest) at bytes field

-- two fields hold the same
abbrev pub HoldSame : Payload → Payload → Type 0
HoldSame (Varint value) (Varint other) = value ≡ other
HoldSame (Eight value) (Eight other) = value ≡ other
HoldSame (Bytes content) (Bytes other) = content.now ≡ other.now
HoldSame (Group content) (Group other) = content.now ≡ other.now
HoldSame (Four value) (Four other) = value ≡ other
HoldSame _ _ = ⊥

-- two fields have one number and one place, and hold the same
abbrev pub AreSame : Field → Field → Type 0
AreSame field other = (field.number ≡ other.number) × (field.at ≡ other.at) × HoldSame field.payload other.payload

-- two lists have the same fields
abbrev pub AreAllSame : List Field → List Field → Type 0
AreAllSame [] [] = Unit {0}
AreAllSame (field ∷ fields) (other ∷ others) = AreSame field other × AreAllSame fields others
AreAllSame _ _ = ⊥
