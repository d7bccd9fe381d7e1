-- The fields of a message in some input, with the places where they stand.
use Rattle.std.specs.Prelude.{◌≡◌, ℕ, ◌+◌, ◌≤◌, List, [], ◌∷◌, length, slice_range}
use Rattle.std.specs.List.{AllByRecursion}
use Rattle.wire_format.specs.declared.field.Payload.{Payload}
use Rattle.wire_format.specs.declared.field.Payload.TheVariants.{Varint, Eight, Bytes, Group, Four}
use Rattle.wire_format.specs.declared.fault.WireFault.{WireFault}
use Rattle.wire_format.specs.Fields.{IsHeader, IsField}
use Rattle.wire_format.specs.Faults.{IsFault, HasNoField}
use Rattle.message_fields.specs.declared.field.Part.{Part}
use Rattle.message_fields.specs.declared.field.Held.{Held}
use Rattle.message_fields.specs.declared.field.Held.TheVariants.{Varint as HeldVarint, Eight as HeldEight, Bytes as HeldBytes, Group as HeldGroup, Four as HeldFour}
use Rattle.message_fields.specs.declared.field.PlacedField.{PlacedField}

-- the bytes of a part
abbrev pub bytes_in : List ℕ → Part → List ℕ
bytes_in input part = slice_range input part.begin part.end

-- a part does not go past the end of the input
abbrev pub IsPartOf : List ℕ → Part → Type 0
IsPartOf input part = (part.begin ≤ part.end) × (part.end ≤ length input)

-- parts of the input
abbrev pub ArePartsOf : List ℕ → List Part → Type 0
ArePartsOf input parts = AllByRecursion (IsPartOf input) parts

-- all of the input
abbrev pub whole_of : List ℕ → Part
whole_of input = record { begin = 0; end = length input }

-- a length-delimited content stands at the end of its field
pub record IsContent (input : List ℕ) (end : ℕ) (content : List ℕ) (held : Held) : Type 0 where
  pub part : Part
  pub is_held : held ≡ HeldBytes part
  pub is_part : IsPartOf input part
  pub is_content : bytes_in input part ≡ content
  pub ends : part.end ≡ end

-- the content of a group stands between its start and its end
pub record IsGroupContent (input : List ℕ) (at end number : ℕ) (content : List ℕ) (held : Held) : Type 0 where
  pub part : Part
  pub is_held : held ≡ HeldGroup part
  pub is_part : IsPartOf input part
  pub is_content : bytes_in input part ≡ content
  pub starts : IsHeader (slice_range input at part.begin) number 3
  pub is_before : part.end ≤ end

-- so many bytes stand at the end of their field
pub record IsFixed (input : List ℕ) (end size : ℕ) (form : Part → Held) (held : Held) : Type 0 where
  pub part : Part
  pub is_held : held ≡ form part
  pub is_part : IsPartOf input part
  pub is_long : part.end ≡ part.begin + size
  pub ends : part.end ≡ end

-- what a field holds that stands from one place of the input up to another
abbrev pub Holds : List ℕ → ℕ → ℕ → ℕ → Payload → Held → Type 0
Holds input at end number (Varint value) held = held ≡ HeldVarint value
Holds input at end number (Eight value) held = IsFixed input end 8 HeldEight held
Holds input at end number (Bytes content) held = IsContent input end content.now held
Holds input at end number (Group content) held = IsGroupContent input at end number content.now held
Holds input at end number (Four value) held = IsFixed input end 4 HeldFour held

-- a field stands in the input from its place up to another
pub record IsFieldIn (input : List ℕ) (field : PlacedField) (end : ℕ) : Type 0 where
  pub payload : Payload
  pub is_field : IsField (slice_range input field.at end) field.number payload
  pub holds : Holds input field.at end field.number payload field.held

-- a field begins at this place, and up to its end others may follow
pub record IsNextField (Follow : ℕ → Type 0) (input : List ℕ) (begin : ℕ) (field : PlacedField) : Type 0 where
  pub end : ℕ
  pub is_next : field.at ≡ begin
  pub is_field : IsFieldIn input field end
  pub is_after : begin ≤ end
  pub follow : Follow end

-- these fields stand in the input one after another, from one place up to another
abbrev pub AreFieldsIn : List ℕ → ℕ → List PlacedField → ℕ → Type 0
AreFieldsIn input begin [] end = begin ≡ end
AreFieldsIn input begin (field ∷ fields) end = IsNextField (λ next. AreFieldsIn input next fields end) input begin field

-- after these fields a part is at fault in its next field
pub record IsFaultyPart (input : List ℕ) (part : Part) (fields : List PlacedField) (fault : WireFault) : Type 0 where
  pub place : ℕ
  pub offset : ℕ
  pub are_fields : AreFieldsIn input part.begin fields place
  pub is_within : place ≤ part.end
  pub is_fault : IsFault (slice_range input place part.end) fault.reason offset
  pub is_next : HasNoField (slice_range input place part.end)
  pub is_place : fault.at ≡ place + offset
