-- A walk over the tokens of bytes that come in pieces.
use Rattle.std.specs.Prelude.{◌≡◌, ◌⊎◌, ℕ, ◌≤◌, List, length, take, drop}
use Rattle.wire_format.specs.declared.fault.WireReason.{WireReason}
use Rattle.wire_format.specs.declared.fault.WireReason.TheVariants.{Cut, LongVarint, BadKind, ZeroNumber, BigNumber, OpenGroup, StrayEnd, TooDeep}
use Rattle.wire_format.specs.Fields.{MAX_NESTING}
use Rattle.wire_format.specs.Faults.{AreOpen, IsTokenFault, IsFault}

-- how many bytes are known to be whole tokens, and the numbers of the groups that are open after them, the
-- outermost first
pub record Walked : Type 0 where
  pub at : ℕ
  pub numbers : List ℕ

-- so many bytes at the front of these are whole fields and open groups
pub record IsWalk (walked : Walked) (bytes : List ℕ) : Type 0 where
  pub inside : walked.at ≤ length bytes
  pub are_open : AreOpen MAX_NESTING walked.numbers (take walked.at bytes)

-- after them the bytes end, or end inside a token
abbrev pub IsCutThere : Walked → List ℕ → Type 0
IsCutThere walked bytes =
    (walked.at ≡ length bytes) ⊎ IsTokenFault (drop walked.at bytes) Cut (length (drop walked.at bytes))

-- these bytes are walked as far as they go
pub record IsWalkedOut (walked : Walked) (bytes : List ℕ) : Type 0 where
  pub is_walk : IsWalk walked bytes
  pub is_cut : IsCutThere walked bytes

-- a fault for this reason stays, whatever bytes follow
abbrev pub Stays : WireReason → Type 0
Stays Cut = ⊥
Stays LongVarint = Unit {0}
Stays BadKind = Unit {0}
Stays ZeroNumber = Unit {0}
Stays BigNumber = Unit {0}
Stays OpenGroup = ⊥
Stays StrayEnd = Unit {0}
Stays TooDeep = Unit {0}

-- these bytes have this fault, which stays
abbrev pub IsStayingFault : List ℕ → WireReason → ℕ → Type 0
IsStayingFault bytes reason place = IsFault bytes reason place × Stays reason

-- these bytes have no fault, or one that bytes to come may mend
abbrev pub MayGoOn : List ℕ → Type 0
MayGoOn bytes = (reason : WireReason) → (place : ℕ) → IsStayingFault bytes reason place → ⊥
