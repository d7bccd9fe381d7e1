-- Tokens: a header with what follows it up to the next header.
use Rattle.std.specs.Prelude.{◌≡◌, ℕ, ◌+◌, ◌≤◌, List, length, take}
use Rattle.wire_format.specs.declared.token.Body.{Body}
use Rattle.wire_format.specs.declared.token.Body.TheVariants.{Plain, Start, End}
use Rattle.wire_format.specs.declared.varint.VarintFault.{VarintFault}
use Rattle.wire_format.specs.declared.varint.VarintFault.TheVariants.{Cut, Long}
use Rattle.wire_format.specs.declared.fault.WireReason.{WireReason}
use Rattle.wire_format.specs.declared.fault.WireReason.TheVariants.{Cut as CutReason, LongVarint}
use Rattle.wire_format.specs.declared.field.Payload.{Payload}
use Rattle.wire_format.specs.Fields.{IsHeader, IsPlain, IsPlainField, header_kind}
use Rattle.wire_format.specs.Faults.{IsCutBody, IsLongBody}

-- these bytes are a token
abbrev pub IsToken : List ℕ → ℕ → Body → Type 0
IsToken bytes number (Plain payload) = IsPlainField bytes number payload
IsToken bytes number Start = IsHeader bytes number 3
IsToken bytes number End = IsHeader bytes number 4

-- a token of this size stands at the front of these bytes
abbrev pub IsTokenAt : List ℕ → ℕ → ℕ → Body → Type 0
IsTokenAt bytes size number body = (size ≤ length bytes) × IsToken (take size bytes) number body

-- at the front of these bytes stands what may follow a header of this kind, of this size
abbrev pub IsPlainAt : ℕ → List ℕ → ℕ → Payload → Type 0
IsPlainAt kind bytes size payload = (size ≤ length bytes) × IsPlain (take size bytes) payload × (header_kind payload ≡ kind)

-- why nothing whole follows a header of this kind
abbrev pub IsBodyFault : ℕ → List ℕ → VarintFault → Type 0
IsBodyFault kind body Cut = IsCutBody kind body
IsBodyFault kind body Long = IsLongBody kind body

-- the reason and the place of the fault of a varint
abbrev pub IsFaultOf : VarintFault → ℕ → ℕ → WireReason → ℕ → Type 0
IsFaultOf Cut end begin reason place = (reason ≡ CutReason) × (place ≡ end)
IsFaultOf Long end begin reason place = (reason ≡ LongVarint) × (place ≡ begin + 9)
