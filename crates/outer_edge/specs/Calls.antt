-- Calls of the system that may be interrupted, and what is made of them.
use Rattle.std.specs.Prelude.{◌≡◌, ℕ, ◌<◌, ◌≤◌, ◌⊎◌, List, length, Result, Ok, Err}
use Rattle.std.specs.declared.io.ErrorKind.{ErrorKind}
use Rattle.std.specs.declared.io.ErrorKind.TheVariants.{Interrupted}
use Rattle.outer_edge.specs.Faults.{last_count, counted}
use Rattle.outer_edge.specs.declared.calls.CallCounts.{CallCounts}
use Rattle.outer_edge.specs.declared.calls.CallFault.{CallFault}
use Rattle.outer_edge.specs.declared.calls.CallFault.TheVariants.{Interruption, Failure}

-- an error of this kind is that fault: an interruption where it says so, and else a failure
pub record IsFaultOf (kind : ErrorKind) (fault : CallFault) : Type 0 where
  pub interrupted : kind ≡ Interrupted → fault ≡ Interruption
  pub failed : (kind ≡ Interrupted → ⊥) → fault ≡ Failure

-- a call that took so many bytes of a piece has that answer: their number, and where none was taken of some, a failure
pub record IsTakenOf (count : ℕ) (piece : List ℕ) (answer : Result ℕ CallFault) : Type 0 where
  pub took : (0 < count) ⊎ (length piece ≡ 0) → answer ≡ Ok count
  pub took_none : count ≡ 0 → 0 < length piece → answer ≡ Err Failure

-- the counts with one more call that ended so
abbrev pub with_fault : CallFault → CallCounts → CallCounts
with_fault Interruption counts = record { failures = counts.failures; interruptions = counted counts.interruptions }
with_fault Failure counts = record { failures = counted counts.failures; interruptions = counts.interruptions }

-- no call failed in between; some may have been interrupted
abbrev pub NoneFailed : CallCounts → CallCounts → Type 0
NoneFailed before now = now.failures ≡ before.failures

-- Just one call failed in between, the last one; or none did, and as many were interrupted as a count can tell.
abbrev pub GaveUp : CallCounts → CallCounts → Type 0
GaveUp before now =
    (now.failures ≡ counted before.failures) ⊎ (NoneFailed before now × (last_count ≤ now.interruptions))
