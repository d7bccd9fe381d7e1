-- The next field of a reader.
use Rattle.std.proofs.Common.{◌≡◌, ℕ, ◌+◌, ◌-◌, ◌<◌, ◌≤◌, List, [], ◌∷◌, Option, Some, length, take, drop, refl, ap, subst, ◌∙◌, arith}
use Rattle.std.proofs.lemmas.List.{length-append, drop-take}
use Rattle.wire_format.specs.declared.field.Payload.{Payload}
use Rattle.wire_format.specs.declared.fault.WireFault.{WireFault}
use Rattle.wire_format.specs.declared.fault.WireReason.{WireReason}
use Rattle.wire_format.specs.declared.fault.WireReason.TheVariants.{StrayEnd}
use Rattle.wire_format.specs.Fields.{IsHeader, IsField, MayFill}
use Rattle.wire_format.specs.Faults.{IsInnermost, IsTokenFault, IsFault, HasNoField, IsFirstFault}
use Rattle.wire_format.specs.Readers.{Reading, IsRead, IsFaulty}
use Rattle.wire_format.proofs.Nesting.{no_fields}
use Rattle.wire_format.proofs.TokenLemmas.{from_place}
use Rattle.wire_format.proofs.GroupLemmas.{fault_at, token_fault, stray_here}
use Rattle.wire_format.proofs.FirstField.{none_at_fault}

-- a fault of the first token
pub first_fault : (bytes : List ℕ) (reason : WireReason) (place : ℕ) → 0 < length bytes → IsTokenFault bytes reason place →
    IsFirstFault bytes reason place
first_fault bytes reason place some fault = (
  subst (IsFault bytes reason) (let same : 0 + place ≡ place = omega arith in same)
      (fault_at bytes 0 place [] reason (omega arith) (no_fields (MayFill 32)) (token_fault [] bytes reason place some fault)),
  none_at_fault bytes reason place (token_fault [] bytes reason place some fault),
)

none_innermost : (number : ℕ) → IsInnermost [] number → ⊥
none_innermost number inner = omega (arith, ap length inner.is_last, length-append inner.outer (number ∷ []))

-- an end of a group where none is open
pub first_stray : (bytes : List ℕ) (size number : ℕ) → IsHeader (take size bytes) number 4 → IsFirstFault bytes StrayEnd 0
first_stray bytes size number header =
    let fault = stray_here [] bytes size number header (none_innermost number) in (
      fault_at bytes 0 0 [] StrayEnd (omega arith) (no_fields (MayFill 32)) fault,
      none_at_fault bytes StrayEnd 0 fault,
    )

-- a field was read
pub next_field : (old : Reading) (bytes : List ℕ) (at size number : ℕ) (fault : Option WireFault) (payload : Payload) →
    record { bytes = bytes; at = at; fault = fault } ≡ old →
    (size ≤ length (take (length bytes - at) (drop at bytes)))
    × IsField (take size (take (length bytes - at) (drop at bytes))) number payload →
    IsRead old (record { number = number; at = at; payload = payload }) (record { bytes = bytes; at = at + size; fault = fault })
next_field old bytes at size number fault payload is_old found =
    let slice = from_place bytes at in
    let within : size ≤ length (drop at bytes) = subst (λ rest. size ≤ length rest) slice found.0 in
    let field : IsField (take size (drop at bytes)) number payload
    = subst (λ rest. IsField (take size rest) number payload) slice found.1 in
    subst (λ (reading : Reading). IsRead reading (record { number = number; at = at; payload = payload })
    (record { bytes = bytes; at = at + size; fault = fault })) is_old
    (record { size = size; within = within; is_field = field; is_place = refl; goes_on = refl })

-- a fault was found
pub next_fault : (old : Reading) (bytes : List ℕ) (at place : ℕ) (fault : Option WireFault) (reason : WireReason) →
    record { bytes = bytes; at = at; fault = fault } ≡ old →
    IsFirstFault (take (length bytes - at) (drop at bytes)) reason place →
    IsFaulty old (record { at = at + place; reason = reason })
    (record { bytes = bytes; at = at; fault = Some (record { at = at + place; reason = reason }) })
next_fault old bytes at place fault reason is_old found =
    let told : WireFault = record { at = at + place; reason = reason } in
    subst (λ (reading : Reading). IsFaulty reading told (record { bytes = bytes; at = at; fault = Some told })) is_old
    (record {
      place = place;
      is_fault = subst (λ rest. IsFault rest reason place) (from_place bytes at) found.0;
      is_first = subst HasNoField (from_place bytes at) found.1;
      is_place = refl;
      is_kept = refl;
    })

-- what stands between two places, as a slice shows it
pub between : (bytes : List ℕ) (start end : ℕ) → start ≤ end → drop start (take end bytes) ≡ take (end - start) (drop start bytes)
between bytes start end within =
    ap (λ size. drop start (take size bytes)) (let same : end ≡ start + (end - start) = omega (arith, within) in same)
    ∙ drop-take start (end - start) bytes
