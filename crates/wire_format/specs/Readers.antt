-- A reader of fields, and what a call of it gives.
use Rattle.std.specs.Prelude.{◌≡◌, ℕ, ◌+◌, ◌≤◌, List, [], length, take, drop, Option, Some, None, Result, Ok, Err}
use Rattle.wire_format.specs.declared.field.Field.{Field}
use Rattle.wire_format.specs.declared.fault.WireFault.{WireFault}
use Rattle.wire_format.specs.Fields.{IsField}
use Rattle.wire_format.specs.Faults.{IsFault, HasNoField}

-- all bytes, how many of them have been read, and the fault that was told
pub record Reading : Type 0 where
  pub bytes : List ℕ
  pub at : ℕ
  pub fault : Option WireFault

-- what is left to read
abbrev pub left : Reading → List ℕ
left reading = drop reading.at reading.bytes

-- a field was read: it stood at the front of what was left
pub record IsRead (old : Reading) (field : Field) (new : Reading) : Type 0 where
  pub size : ℕ
  pub within : size ≤ length (left old)
  pub is_field : IsField (take size (left old)) field.number field.payload
  pub is_place : field.at ≡ old.at
  pub goes_on : new ≡ record old { at = old.at + size }

-- what is left is at fault in its first field; the fault is kept
pub record IsFaulty (old : Reading) (fault : WireFault) (new : Reading) : Type 0 where
  pub place : ℕ
  pub is_fault : IsFault (left old) fault.reason place
  pub is_first : HasNoField (left old)
  pub is_place : fault.at ≡ old.at + place
  pub is_kept : new ≡ record old { fault = Some fault }

-- what a call of a reader gives that told no fault yet: the next field, nothing at the end, or the first fault
abbrev pub IsNext : Reading → Result (Option Field) WireFault → Reading → Type 0
IsNext old (Ok (Some field)) new = IsRead old field new
IsNext old (Ok None) new = (left old ≡ []) × (new ≡ old)
IsNext old (Err fault) new = IsFaulty old fault new
