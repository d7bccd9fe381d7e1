-- Fields: which bytes are a list of them (Protocol Buffers, Encoding, Message Structure).
use Rattle.std.specs.Prelude.{◌≡◌, ◌⊎◌, ℕ, zero, suc, ◌+◌, ◌*◌, ◌≤◌, List, ◌++◌, length, take}
use Rattle.std.specs.List.{AllByRecursion, concat}
use Rattle.byteorder.specs.Endian.{little_number}
use Rattle.wire_format.specs.declared.field.Payload.{Payload}
use Rattle.wire_format.specs.declared.field.Payload.TheVariants.{Varint, Eight, Bytes, Group, Four}
use Rattle.wire_format.specs.Varints.{IsVarint}

-- the greatest number of a field
abbrev pub LAST_NUMBER : ℕ
LAST_NUMBER = 536870911

-- how many groups may be open inside one another
abbrev pub MAX_NESTING : ℕ
MAX_NESTING = 32

-- these bytes are a header of this number and kind
pub record IsHeader (bytes : List ℕ) (number kind : ℕ) : Type 0 where
  pub is_varint : IsVarint bytes (number * 8 + kind)
  pub is_number : 1 ≤ number
  pub is_small : number ≤ LAST_NUMBER

-- these bytes are a length and so many bytes of content
pub record IsDelimited (bytes content : List ℕ) : Type 0 where
  pub count : List ℕ
  pub is_whole : bytes ≡ count ++ content
  pub is_count : IsVarint count (length content)

-- the kind of a field's header, by what the field holds
abbrev pub header_kind : Payload → ℕ
header_kind (Varint value) = 0
header_kind (Eight value) = 1
header_kind (Bytes content) = 2
header_kind (Group content) = 3
header_kind (Four value) = 5

-- these bytes are what follows the header of a field that is no group
abbrev pub IsPlain : List ℕ → Payload → Type 0
IsPlain bytes (Varint value) = IsVarint bytes value
IsPlain bytes (Eight value) = (length bytes ≡ 8) × (value ≡ little_number 8 bytes)
IsPlain bytes (Bytes content) = IsDelimited bytes content.now
IsPlain bytes (Group content) = ⊥
IsPlain bytes (Four value) = (length bytes ≡ 4) × (value ≡ little_number 4 bytes)

-- these bytes are a field that is no group
pub record IsPlainField (bytes : List ℕ) (number : ℕ) (payload : Payload) : Type 0 where
  pub header : List ℕ
  pub body : List ℕ
  pub is_whole : bytes ≡ header ++ body
  pub is_header : IsHeader header number (header_kind payload)
  pub is_plain : IsPlain body payload

-- these bytes are a group, of a content that may stand in one
pub record IsGroupOf (MayFill : List ℕ → Type 0) (bytes : List ℕ) (number : ℕ) (content : List ℕ) : Type 0 where
  pub start : List ℕ
  pub end : List ℕ
  pub is_whole : bytes ≡ start ++ content ++ end
  pub is_start : IsHeader start number 3
  pub is_end : IsHeader end number 4
  pub is_filled : MayFill content

-- these bytes are one field, where these contents may stand in a group
abbrev pub IsFieldOf : (List ℕ → Type 0) → List ℕ → ℕ → Payload → Type 0
IsFieldOf MayFill bytes number (Varint value) = IsPlainField bytes number (Varint value)
IsFieldOf MayFill bytes number (Eight value) = IsPlainField bytes number (Eight value)
IsFieldOf MayFill bytes number (Bytes content) = IsPlainField bytes number (Bytes content)
IsFieldOf MayFill bytes number (Group content) = IsGroupOf MayFill bytes number content.now
IsFieldOf MayFill bytes number (Four value) = IsPlainField bytes number (Four value)

-- these bytes are some field that is no group
pub record IsSomePlain (bytes : List ℕ) : Type 0 where
  pub number : ℕ
  pub payload : Payload
  pub is_plain : IsPlainField bytes number payload

-- these bytes are some group
pub record IsSomeGroup (MayFill : List ℕ → Type 0) (bytes : List ℕ) : Type 0 where
  pub number : ℕ
  pub content : List ℕ
  pub is_group : IsGroupOf MayFill bytes number content

-- these bytes are a field
abbrev pub IsSomeField : (List ℕ → Type 0) → List ℕ → Type 0
IsSomeField MayFill bytes = IsSomePlain bytes ⊎ IsSomeGroup MayFill bytes

-- these bytes are some fields, one after another
pub record AreFieldsOf (MayFill : List ℕ → Type 0) (bytes : List ℕ) : Type 0 where
  pub pieces : List (List ℕ)
  pub is_whole : bytes ≡ concat pieces
  pub are_fields : AllByRecursion (IsSomeField MayFill) pieces

-- the content of a group: fields that have at most so many groups, less one, inside one another
abbrev pub MayFill : ℕ → List ℕ → Type 0
MayFill zero content = ⊥
MayFill (suc room) content = AreFieldsOf (MayFill room) content

-- these bytes are a field of a message
abbrev pub IsField : List ℕ → ℕ → Payload → Type 0
IsField bytes number payload = IsFieldOf (MayFill MAX_NESTING) bytes number payload

-- a field of this size stands at the front of these bytes
abbrev pub IsFieldAt : List ℕ → ℕ → ℕ → Payload → Type 0
IsFieldAt bytes size number payload = (size ≤ length bytes) × IsField (take size bytes) number payload

-- these bytes are a message: whole fields
abbrev pub AreFields : List ℕ → Type 0
AreFields bytes = AreFieldsOf (MayFill MAX_NESTING) bytes
