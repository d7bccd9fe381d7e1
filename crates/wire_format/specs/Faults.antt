-- Where bytes are no list of fields, and why.
use Rattle.std.specs.Prelude.{◌≡◌, ◌≢◌, ◌⊎◌, ℕ, zero, suc, ◌+◌, ◌*◌, ◌<◌, ◌≤◌, List, [], ◌∷◌, ◌++◌, length}
use Rattle.wire_format.specs.declared.field.Payload.{Payload}
use Rattle.wire_format.specs.declared.fault.WireReason.{WireReason}
use Rattle.wire_format.specs.declared.fault.WireReason.TheVariants.{Cut, LongVarint, BadKind, ZeroNumber, BigNumber, OpenGroup, StrayEnd, TooDeep}
use Rattle.wire_format.specs.Varints.{IsVarint, IsCutVarint, IsLongVarint}
use Rattle.wire_format.specs.Fields.{LAST_NUMBER, MAX_NESTING, IsHeader, IsFieldAt, AreFieldsOf, MayFill}

-- whole fields, the start of a group, and what stands in it so far
pub record OpensOf (MayFill : List ℕ → Type 0) (IsInside : List ℕ → Type 0) (number : ℕ) (bytes : List ℕ) : Type 0 where
  pub before : List ℕ
  pub start : List ℕ
  pub inside : List ℕ
  pub is_whole : bytes ≡ before ++ start ++ inside
  pub are_fields : AreFieldsOf MayFill before
  pub is_start : IsHeader start number 3
  pub is_inside : IsInside inside

-- These bytes are whole fields, and then the starts of these groups, the outermost first, each with whole
-- fields after it.
abbrev pub AreOpen : ℕ → List ℕ → List ℕ → Type 0
AreOpen room [] bytes = AreFieldsOf (MayFill room) bytes
AreOpen zero (number ∷ numbers) bytes = ⊥
AreOpen (suc room) (number ∷ numbers) bytes = OpensOf (MayFill (suc room)) (AreOpen room numbers) number bytes

-- a number that a field may have
abbrev pub IsNumber : ℕ → Type 0
IsNumber number = (1 ≤ number) × (number ≤ LAST_NUMBER)

-- a length stands here, and the bytes end before so many more
pub record IsCutContent (bytes : List ℕ) : Type 0 where
  pub count : List ℕ
  pub after : List ℕ
  pub value : ℕ
  pub is_whole : bytes ≡ count ++ after
  pub is_count : IsVarint count value
  pub is_less : length after < value

-- the bytes end inside what follows a header of this kind
abbrev pub IsCutBody : ℕ → List ℕ → Type 0
IsCutBody kind body =
    ((kind ≡ 0) × IsCutVarint body) ⊎ (((kind ≡ 1) × (length body < 8)) ⊎ (((kind ≡ 2) × IsCutVarint body)
    ⊎ (((kind ≡ 2) × IsCutContent body) ⊎ ((kind ≡ 5) × (length body < 4)))))

-- a varint that follows a header of this kind is too long
abbrev pub IsLongBody : ℕ → List ℕ → Type 0
IsLongBody kind body = ((kind ≡ 0) ⊎ (kind ≡ 2)) × IsLongVarint body

-- a header of any number and kind stands here, of which this holds, of what follows it, and of its length
pub record HasHeader (Holds : ℕ → ℕ → List ℕ → ℕ → Type 0) (bytes : List ℕ) : Type 0 where
  pub header : List ℕ
  pub body : List ℕ
  pub number : ℕ
  pub kind : ℕ
  pub is_whole : bytes ≡ header ++ body
  pub is_varint : IsVarint header (number * 8 + kind)
  pub is_kind : kind < 8
  pub holds : Holds number kind body (length header)

-- What stands at the front of these bytes is no header with what follows it, for this reason, at this place.
abbrev pub IsTokenFault : List ℕ → WireReason → ℕ → Type 0
IsTokenFault bytes Cut place =
    (place ≡ length bytes) × (IsCutVarint bytes ⊎ HasHeader (λ number kind body size. IsNumber number × IsCutBody kind body) bytes)
IsTokenFault bytes LongVarint place =
    ((place ≡ 9) × IsLongVarint bytes)
    ⊎ HasHeader (λ number kind body size. IsNumber number × IsLongBody kind body × (place ≡ size + 9)) bytes
IsTokenFault bytes ZeroNumber place = (place ≡ 0) × HasHeader (λ number kind body size. number ≡ 0) bytes
IsTokenFault bytes BigNumber place = (place ≡ 0) × HasHeader (λ number kind body size. LAST_NUMBER < number) bytes
IsTokenFault bytes BadKind place = (place ≡ 0) × HasHeader (λ number kind body size. IsNumber number × (6 ≤ kind)) bytes
IsTokenFault bytes OpenGroup place = ⊥
IsTokenFault bytes StrayEnd place = ⊥
IsTokenFault bytes TooDeep place = ⊥

-- the innermost of some open groups is of this number
pub record IsInnermost (numbers : List ℕ) (number : ℕ) : Type 0 where
  pub outer : List ℕ
  pub is_last : numbers ≡ outer ++ number ∷ []

-- Within these open groups, these bytes are at fault at their front: for this reason, at this place.
abbrev pub IsFaultWithin : List ℕ → List ℕ → WireReason → ℕ → Type 0
IsFaultWithin numbers bytes Cut place = (bytes ≢ []) × IsTokenFault bytes Cut place
IsFaultWithin numbers bytes LongVarint place = IsTokenFault bytes LongVarint place
IsFaultWithin numbers bytes ZeroNumber place = IsTokenFault bytes ZeroNumber place
IsFaultWithin numbers bytes BigNumber place = IsTokenFault bytes BigNumber place
IsFaultWithin numbers bytes BadKind place = IsTokenFault bytes BadKind place
IsFaultWithin numbers bytes OpenGroup place = (place ≡ 0) × (bytes ≡ []) × (numbers ≢ [])
IsFaultWithin numbers bytes StrayEnd place = (place ≡ 0)
    × HasHeader (λ number kind body size. IsNumber number × (kind ≡ 4) × (IsInnermost numbers number → ⊥)) bytes
IsFaultWithin numbers bytes TooDeep place = (place ≡ 0)
    × HasHeader (λ number kind body size. IsNumber number × (kind ≡ 3) × (length numbers ≡ MAX_NESTING)) bytes

-- The first fault of these bytes, at a place counted from their front: whole fields and open groups stand
-- before it.
pub record IsFault (bytes : List ℕ) (reason : WireReason) (place : ℕ) : Type 0 where
  pub before : List ℕ
  pub rest : List ℕ
  pub numbers : List ℕ
  pub offset : ℕ
  pub is_whole : bytes ≡ before ++ rest
  pub are_open : AreOpen MAX_NESTING numbers before
  pub is_fault : IsFaultWithin numbers rest reason offset
  pub is_place : place ≡ length before + offset

-- no field stands at the front of these bytes
abbrev pub HasNoField : List ℕ → Type 0
HasNoField bytes = (size number : ℕ) → (payload : Payload) → IsFieldAt bytes size number payload → ⊥

-- the first field of these bytes is at fault
abbrev pub IsFirstFault : List ℕ → WireReason → ℕ → Type 0
IsFirstFault bytes reason place = IsFault bytes reason place × HasNoField bytes
