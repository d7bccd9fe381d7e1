-- What a message's fields say: the last one of a number, and the contents of all of them.
use Rattle.std.specs.Prelude.{ℕ, Bool, ◌==◌, if◌then◌else◌, List, [], Option, Some, None, is_some}
use Rattle.std.specs.List.{filter, filter_map, last_or, AllByRecursion}
use Rattle.message_fields.specs.declared.field.Part.{Part}
use Rattle.message_fields.specs.declared.field.Held.{Held}
use Rattle.message_fields.specs.declared.field.Held.TheVariants.{Varint, Eight, Bytes, Group, Four}
use Rattle.message_fields.specs.declared.field.PlacedField.{PlacedField}
use Rattle.message_fields.specs.Fields.{IsPartOf, ArePartsOf, bytes_in}

-- a field has this number
abbrev pub has_number : ℕ → PlacedField → Bool
has_number number field = field.number == number

-- the last field of this number: the one that counts
abbrev pub last_of : ℕ → List PlacedField → Option PlacedField
last_of number fields = last_or None (filter (has_number number) fields)

-- there is a field of this number
abbrev pub has : ℕ → List PlacedField → Bool
has number fields = is_some (last_of number fields)

-- the number that a varint is
abbrev pub varint_held : Held → Option ℕ
varint_held (Varint value) = Some value
varint_held (Bytes part) = None
varint_held (Group part) = None
varint_held (Eight part) = None
varint_held (Four part) = None

-- where a length-delimited content stands
abbrev pub bytes_held : Held → Option Part
bytes_held (Varint value) = None
bytes_held (Bytes part) = Some part
bytes_held (Group part) = None
bytes_held (Eight part) = None
bytes_held (Four part) = None

-- where the content of a group stands
abbrev pub group_held : Held → Option Part
group_held (Varint value) = None
group_held (Bytes part) = None
group_held (Group part) = Some part
group_held (Eight part) = None
group_held (Four part) = None

-- what the field that counts holds, if there is one that holds such a thing
abbrev pub held_by : {A : Type 0} → (Held → Option A) → Option PlacedField → Option A
held_by held None = None
held_by held (Some field) = held field.held

-- the value of a varint field
abbrev pub number_of : ℕ → List PlacedField → Option ℕ
number_of number fields = held_by varint_held (last_of number fields)

-- where the content of a bytes field stands
abbrev pub content_of : ℕ → List PlacedField → Option Part
content_of number fields = held_by bytes_held (last_of number fields)

-- the bytes of a content; none where there is none
abbrev pub content_or_none : List ℕ → Option Part → List ℕ
content_or_none input None = []
content_or_none input (Some part) = bytes_in input part

-- the content of a bytes field; no bytes where it is not there
abbrev pub bytes_of : List ℕ → ℕ → List PlacedField → List ℕ
bytes_of input number fields = content_or_none input (content_of number fields)

-- where the contents stand of all fields of this number that hold such a thing
abbrev pub parts_by : (Held → Option Part) → ℕ → List PlacedField → List Part
parts_by held number fields = filter_map (λ (field : PlacedField). if field.number == number then held field.held else None) fields

-- the pieces of an inner message, or the values of a repeated field
abbrev pub parts_of : ℕ → List PlacedField → List Part
parts_of number fields = parts_by bytes_held number fields

-- the contents of the groups of this number
abbrev pub groups_of : ℕ → List PlacedField → List Part
groups_of number fields = parts_by group_held number fields

-- the content of a field stands within the input
abbrev pub IsWithin : List ℕ → Held → Type 0
IsWithin input (Varint value) = Unit {0}
IsWithin input (Bytes part) = IsPartOf input part
IsWithin input (Group part) = IsPartOf input part
IsWithin input (Eight part) = IsPartOf input part
IsWithin input (Four part) = IsPartOf input part

-- the contents of these fields stand within the input
abbrev pub AreWithin : List ℕ → List PlacedField → Type 0
AreWithin input fields = AllByRecursion (λ (field : PlacedField). IsWithin input field.held) fields

-- these parts stand within each input within which the contents of these fields do
abbrev pub StandWith : List PlacedField → List Part → Type 0
StandWith fields parts = (input : List ℕ) → AreWithin input fields → ArePartsOf input parts

-- the value of a varint field, or another number where it is not there
abbrev pub number_or : ℕ → ℕ → List PlacedField → ℕ
number_or absent number fields = elim (number_of number fields) as (λ found. ℕ) [ None ↦ absent | Some value ↦ value ]

-- the content of a bytes field, if it is there
abbrev pub bytes_in_field : List ℕ → ℕ → List PlacedField → Option (List ℕ)
bytes_in_field input number fields = elim (content_of number fields) as (λ found. Option (List ℕ)) [
  | None ↦ None
  | Some part ↦ Some (bytes_in input part)
]
