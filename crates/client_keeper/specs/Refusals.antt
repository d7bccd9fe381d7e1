-- What a refusal of the database is told as.
use Rattle.std.specs.Prelude.{◌≡◌, ℕ, Bool, true, false, cond}
use Rattle.outer_edge.specs.Faults.{counted}
use Rattle.sqlite.specs.declared.error.Error.{Error}
use Rattle.sqlite.specs.declared.error.Error.TheVariants.{SqliteFailure}
use Rattle.sqlite.specs.declared.error.ErrorCode.TheVariants.{OutOfMemory}

-- memory was wanting
abbrev pub WantsMemory : Error → Type 0
WantsMemory error = error ≡ SqliteFailure OutOfMemory

-- an error is a fault, or not, and is counted so: each is one but want of memory
pub record IsToldAs (error : Error) (is_fault : Bool) (before now : ℕ) : Type 0 where
  pub memory : WantsMemory error → is_fault ≡ false
  pub other : (WantsMemory error → ⊥) → is_fault ≡ true
  pub count : now ≡ cond is_fault (counted before) before
