-- What each field has.
use Rattle.std.proofs.Common.{ℕ, ◌<◌, ◌≤◌, List, ◌∷◌, ◌++◌, length, ap, arith, inl, inr}
use Rattle.std.proofs.lemmas.List.{length-append}
use Rattle.wire_format.specs.declared.field.Payload.{Payload}
use Rattle.wire_format.specs.declared.field.Payload.TheVariants.{Varint, Eight, Bytes, Group, Four}
use Rattle.wire_format.specs.declared.token.Body.TheVariants.{Plain, Start}
use Rattle.wire_format.specs.declared.fault.WireReason.{WireReason}
use Rattle.wire_format.specs.declared.fault.WireReason.TheVariants.{Cut, LongVarint, BadKind, ZeroNumber, BigNumber, OpenGroup, StrayEnd, TooDeep}
use Rattle.wire_format.specs.Varints.{IsLongVarint}
use Rattle.wire_format.specs.Fields.{IsField}
use Rattle.wire_format.specs.Faults.{IsLongBody, IsTokenFault, IsFaultWithin, IsFault}
use Rattle.wire_format.proofs.GroupLemmas.{token_some}

-- a field has some bytes
pub field_some : (bytes : List ℕ) (number : ℕ) (payload : Payload) → IsField bytes number payload → 0 < length bytes
field_some bytes number (Varint value) field = token_some bytes number (Plain (Varint value)) field
field_some bytes number (Eight value) field = token_some bytes number (Plain (Eight value)) field
field_some bytes number (Bytes content) field = token_some bytes number (Plain (Bytes content)) field
field_some bytes number (Group content) field =
    omega (
      arith,
      token_some field.start number Start field.is_start,
      ap length field.is_whole,
      length-append (field.start ++ content.now) field.end,
      length-append field.start content.now,
    )
field_some bytes number (Four value) field = token_some bytes number (Plain (Four value)) field

long_within : (bytes : List ℕ) → IsLongVarint bytes → 9 ≤ length bytes
long_within bytes long =
    omega (arith, ap length long.is_whole, length-append long.front (long.tenth ∷ long.after), long.is_ninth)

body_within : (kind : ℕ) (body : List ℕ) → IsLongBody kind body → 9 ≤ length body
body_within kind body long = long_within body long.1

-- the place of a fault at the front of some bytes
token_within : (bytes : List ℕ) (place : ℕ) → IsTokenFault bytes LongVarint place → place ≤ length bytes
token_within bytes place fault =
    elim fault as (λ f. place ≤ length bytes) [
      | inl here ↦ let long = long_within bytes here.1 in omega (arith, here.0, long)
      | inr after ↦ let long = body_within after.kind after.body after.holds.1 in
          omega (arith, after.holds.2, long, ap length after.is_whole, length-append after.header after.body)
    ]

front_within : (numbers : List ℕ) (bytes : List ℕ) (reason : WireReason) (place : ℕ) → IsFaultWithin numbers bytes reason place →
    place ≤ length bytes
front_within numbers bytes Cut place fault = omega (arith, fault.1.0)
front_within numbers bytes LongVarint place fault = token_within bytes place fault
front_within numbers bytes ZeroNumber place fault = omega (arith, fault.0)
front_within numbers bytes BigNumber place fault = omega (arith, fault.0)
front_within numbers bytes BadKind place fault = omega (arith, fault.0)
front_within numbers bytes OpenGroup place fault = omega (arith, fault.0)
front_within numbers bytes StrayEnd place fault = omega (arith, fault.0)
front_within numbers bytes TooDeep place fault = omega (arith, fault.0)

-- a fault stands within the bytes, or at their end
pub fault_within : (bytes : List ℕ) (reason : WireReason) (place : ℕ) → IsFault bytes reason place → place ≤ length bytes
fault_within bytes reason place fault =
    omega (
      arith,
      front_within fault.numbers fault.rest reason fault.offset fault.is_fault,
      fault.is_place,
      ap length fault.is_whole,
      length-append fault.before fault.rest,
    )
