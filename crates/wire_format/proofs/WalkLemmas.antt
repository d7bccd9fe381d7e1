-- A walk over tokens, one token more.
use Rattle.std.proofs.Common.{◌≡◌, ℕ, ◌+◌, ◌-◌, ◌<◌, ◌≤◌, List, inl, inr, length, take, drop, refl, sym, subst, arith}
use Rattle.std.proofs.lemmas.List.{length-drop}
use Rattle.std.proofs.Math.Seq.{take-add}
use Rattle.wire_format.specs.declared.token.Body.{Body}
use Rattle.wire_format.specs.declared.token.Body.TheVariants.{Start, End}
use Rattle.wire_format.specs.declared.fault.WireReason.{WireReason}
use Rattle.wire_format.specs.declared.fault.WireReason.TheVariants.{Cut, LongVarint, BadKind, ZeroNumber, BigNumber, OpenGroup, StrayEnd, TooDeep}
use Rattle.wire_format.specs.Faults.{AreOpen, IsInnermost, IsTokenFault, IsFault}
use Rattle.wire_format.specs.Tokens.{IsToken}
use Rattle.wire_format.specs.Groups.{Nests}
use Rattle.wire_format.specs.Walks.{IsWalkedOut, Stays, IsStayingFault}
use Rattle.wire_format.proofs.TokenLemmas.{from_place}
use Rattle.wire_format.proofs.GroupLemmas.{nested, fault_at, token_fault, stray_here, deep_here}

token_stays : (bytes : List ℕ) (reason : WireReason) (place : ℕ) → (reason ≡ Cut → ⊥) → IsTokenFault bytes reason place → Stays reason
token_stays bytes Cut place other fault = other refl
token_stays bytes LongVarint place other fault = tt
token_stays bytes BadKind place other fault = tt
token_stays bytes ZeroNumber place other fault = tt
token_stays bytes BigNumber place other fault = tt
token_stays bytes OpenGroup place other fault = fault
token_stays bytes StrayEnd place other fault = tt
token_stays bytes TooDeep place other fault = tt

-- a token's fault that is no cut stays
pub token_fault_stays : (bytes : List ℕ) (at place : ℕ) (numbers : List ℕ) (reason : WireReason) → at < length bytes →
    AreOpen 32 numbers (take at bytes) → (reason ≡ Cut → ⊥) →
    IsTokenFault (take (length bytes - at) (drop at bytes)) reason place → IsStayingFault bytes reason (at + place)
token_fault_stays bytes at place numbers reason inside are other found =
    let fault : IsTokenFault (drop at bytes) reason place
    = subst (λ rest. IsTokenFault rest reason place) (from_place bytes at) found in (
      fault_at bytes at place numbers reason (omega (arith, inside)) are
          (token_fault numbers (drop at bytes) reason place (omega (arith, length-drop at bytes, inside)) fault),
      token_stays (drop at bytes) reason place other fault,
    )

-- a token more
pub walk_more : (bytes : List ℕ) (at size number : ℕ) (body : Body) (old new : List ℕ) → Nests body number old new →
    IsToken (take size (drop at bytes)) number body → AreOpen 32 old (take at bytes) → AreOpen 32 new (take (at + size) bytes)
walk_more bytes at size number body old new nests token are =
    subst (AreOpen 32 new) (sym (take-add at size bytes))
    (nested body number old new (take at bytes) (take size (drop at bytes)) nests token are)

-- an end of a group that is not the innermost stays one
pub stray_stays : (bytes : List ℕ) (at size number : ℕ) (body : Body) (numbers : List ℕ) → at ≤ length bytes →
    AreOpen 32 numbers (take at bytes) → IsToken (take size (drop at bytes)) number body →
    (body ≡ End) × (IsInnermost numbers number → ⊥) → IsStayingFault bytes StrayEnd at
stray_stays bytes at size number body numbers inside are token stray = (
  subst (IsFault bytes StrayEnd) (let same : at + 0 ≡ at = omega arith in same)
      (fault_at bytes at 0 numbers StrayEnd inside are
      (stray_here numbers (drop at bytes) size number (subst (IsToken (take size (drop at bytes)) number) stray.0 token) stray.1)),
  tt,
)

-- a start of a group inside as many as may be open stays one
pub deep_stays : (bytes : List ℕ) (at size number : ℕ) (body : Body) (numbers : List ℕ) → at ≤ length bytes →
    AreOpen 32 numbers (take at bytes) → IsToken (take size (drop at bytes)) number body →
    (body ≡ Start) × (length numbers ≡ 32) → IsStayingFault bytes TooDeep at
deep_stays bytes at size number body numbers inside are token deep = (
  subst (IsFault bytes TooDeep) (let same : at + 0 ≡ at = omega arith in same)
      (fault_at bytes at 0 numbers TooDeep inside are
      (deep_here numbers (drop at bytes) size number (subst (IsToken (take size (drop at bytes)) number) deep.0 token) deep.1)),
  tt,
)

-- a walk up to a token that is cut
pub cut_walk : (bytes : List ℕ) (at place : ℕ) (numbers : List ℕ) (reason : WireReason) → at ≤ length bytes →
    AreOpen 32 numbers (take at bytes) → reason ≡ Cut → IsTokenFault (take (length bytes - at) (drop at bytes)) reason place →
    IsWalkedOut (record { at = at; numbers = numbers }) bytes
cut_walk bytes at place numbers reason inside are is found =
    let fault : IsTokenFault (drop at bytes) Cut place
    = subst (λ rest. IsTokenFault rest Cut place) (from_place bytes at)
    (subst (λ why. IsTokenFault (take (length bytes - at) (drop at bytes)) why place) is found) in
    record {
      is_walk = record { inside = inside; are_open = are };
      is_cut = inr (refl, fault.1);
    }

-- a walk up to the end
pub end_walk : (bytes : List ℕ) (at : ℕ) (numbers : List ℕ) → at ≤ length bytes → AreOpen 32 numbers (take at bytes) →
    length bytes ≤ at → IsWalkedOut (record { at = at; numbers = numbers }) bytes
end_walk bytes at numbers inside are end = record {
  is_walk = record { inside = inside; are_open = are };
  is_cut = inl (omega (arith, inside, end));
}
