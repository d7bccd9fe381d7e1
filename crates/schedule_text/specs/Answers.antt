-- What a reader answers, where memory sufficed.
use Rattle.std.specs.Prelude.{◌≡◌, ℕ, Result, Ok, Err}
use Rattle.schedule_text.specs.declared.fault.LineReason.{LineReason}
use Rattle.schedule_text.specs.declared.fault.ParseFault.{ParseFault}
use Rattle.schedule_text.specs.declared.fault.ParseFault.TheVariants.{BadLine, NoMemory}

-- a line that a fault names is refused, and memory may always be wanting
abbrev pub IsFaultOf : (ℕ → LineReason → Type 0) → ParseFault → Type 0
IsFaultOf is_refused (BadLine line reason) = is_refused line reason
IsFaultOf is_refused NoMemory = Unit {0}

-- memory was wanting, or an answer is the right one
abbrev pub IsUnlessNoMemory : {A : Type 0} → Result A ParseFault → Result A ParseFault → Type 0
IsUnlessNoMemory (Ok value) right = Ok value ≡ right
IsUnlessNoMemory (Err (BadLine line reason)) right = Err (BadLine line reason) ≡ right
IsUnlessNoMemory (Err NoMemory) right = Unit {0}
