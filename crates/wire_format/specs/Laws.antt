-- What holds of all bytes, by the definitions alone.
use Rattle.std.specs.Prelude.{◌≡◌, ℕ, ◌+◌, ◌^◌, ◌<◌, ◌≤◌, List, ◌++◌, length}
use Rattle.std.specs.Borrow.{Bor}
use Rattle.wire_format.specs.declared.field.Field.{Field}
use Rattle.wire_format.specs.declared.field.Payload.{Payload}
use Rattle.wire_format.specs.declared.field.Payload.TheVariants.{Varint, Bytes, Group}
use Rattle.wire_format.specs.declared.fault.WireReason.{WireReason}
use Rattle.wire_format.specs.Varints.{IsVarint}
use Rattle.wire_format.specs.Fields.{MAX_NESTING, IsField, IsFieldAt, AreFields, MayFill}
use Rattle.wire_format.specs.Faults.{IsNumber, IsFault}
use Rattle.wire_format.specs.Walks.{Stays}
use Rattle.wire_format.specs.FieldLists.{AreTheseFields, HoldSame, AreAllSame}
use Rattle.wire_format.specs.Spellings.{varint_of, varint_field, bytes_field, group_field}

-- bytes that are fields have no fault
abbrev pub FieldsHaveNoFault : Type 0
FieldsHaveNoFault = (bytes : List ℕ) → (reason : WireReason) → (place : ℕ) → AreFields bytes → IsFault bytes reason place → ⊥

-- fields before fields are fields
abbrev pub FieldsJoin : Type 0
FieldsJoin = (bytes more : List ℕ) → AreFields bytes → AreFields more → AreFields (bytes ++ more)

-- fields before a fault move its place
abbrev pub FaultsMove : Type 0
FaultsMove =
    (front bytes : List ℕ) → (reason : WireReason) → (place : ℕ) → AreFields front → IsFault bytes reason place →
    IsFault (front ++ bytes) reason (length front + place)

-- bytes have one fault at most
abbrev pub BytesHaveOneFault : Type 0
BytesHaveOneFault =
    (bytes : List ℕ) → (reason other : WireReason) → (place second : ℕ) → IsFault bytes reason place → IsFault bytes other second →
    (reason ≡ other) × (place ≡ second)

-- one field at most stands at the front of some bytes
abbrev pub OneFieldStandsAtAFront : Type 0
OneFieldStandsAtAFront =
    (bytes : List ℕ) → (size other_size number other_number : ℕ) → (payload other : Payload) →
    IsFieldAt bytes size number payload → IsFieldAt bytes other_size other_number other →
    (size ≡ other_size) × (number ≡ other_number) × HoldSame payload other

-- bytes are one list of fields at most
abbrev pub BytesAreOneList : Type 0
BytesAreOneList =
    (fields others : List Field) → (at : ℕ) → (bytes : List ℕ) → AreTheseFields fields at bytes → AreTheseFields others at bytes →
    AreAllSame fields others

-- bytes that are a list of fields are fields
abbrev pub ListsAreFields : Type 0
ListsAreFields = (fields : List Field) → (at : ℕ) → (bytes : List ℕ) → AreTheseFields fields at bytes → AreFields bytes

-- a fault that stays is one of all longer bytes too
abbrev pub StayingFaultsStay : Type 0
StayingFaultsStay =
    (bytes more : List ℕ) → (reason : WireReason) → (place : ℕ) → Stays reason → IsFault bytes reason place →
    IsFault (bytes ++ more) reason place

-- the least varint of a number is one of its varints
abbrev pub LeastVarintsAreVarints : Type 0
LeastVarintsAreVarints = (value : ℕ) → value < 2 ^ 64 → IsVarint (varint_of value) value

-- no varint of a number is shorter than its least one
abbrev pub LeastVarintsAreShortest : Type 0
LeastVarintsAreShortest = (bytes : List ℕ) → (value : ℕ) → IsVarint bytes value → length (varint_of value) ≤ length bytes

-- a varint's field, as it is written, is that field
abbrev pub VarintFieldsAreFields : Type 0
VarintFieldsAreFields = (number value : ℕ) → IsNumber number → value < 2 ^ 64 → IsField (varint_field number value) number (Varint value)

-- a field of bytes, as it is written, is that field
abbrev pub BytesFieldsAreFields : Type 0
BytesFieldsAreFields =
    (number : ℕ) → (content : Bor (List ℕ)) → IsNumber number → length content.now < 2 ^ 64 →
    IsField (bytes_field number content.now) number (Bytes content)

-- a group, as it is written, is that group, where its content is fields that may stand in one
abbrev pub GroupFieldsAreFields : Type 0
GroupFieldsAreFields =
    (number : ℕ) → (content : Bor (List ℕ)) → IsNumber number → MayFill MAX_NESTING content.now →
    IsField (group_field number content.now) number (Group content)
