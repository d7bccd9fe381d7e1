-- How the reading of a message's parts ends where they do not come.
use Rattle.std.specs.Prelude.{◌≡◌, ℕ, ◌<◌, List, length, Option}
use Rattle.outer_edge.specs.Source.{Gave, GaveCount, IsAtEnd}
use Rattle.http_edge.specs.Heads.{longest_head, HasNoEmptyLine}
use Rattle.http_edge.specs.declared.fault.EdgeFault.{EdgeFault}
use Rattle.http_edge.specs.declared.fault.EdgeFault.TheVariants.{LinkFault, Ended, BadHead, BadMethod, BadPath, Encoded, NoLength, TooBig, Status, NoMemory}

-- so many bytes were given, and none of their fronts ends with an empty line
pub record GaveEndless {S : Type 0} (left came : S → Option (List ℕ)) (before now : S) (count : ℕ) : Type 0 where
  pub piece : List ℕ
  pub gave : Gave left came before now piece
  pub endless : HasNoEmptyLine piece
  pub just : length piece ≡ count

-- all that was left was given, fewer bytes than a head may have, without the end of one
pub record EndedInHead {S : Type 0} (left came : S → Option (List ℕ)) (before now : S) (have want : ℕ) : Type 0 where
  pub gave : GaveEndless left came before now have
  pub few : have < longest_head
  pub no_body : want ≡ 0
  pub at_end : IsAtEnd (left now)

-- all that was left was given, fewer bytes than were wanted
pub record EndedInBody {S : Type 0} (left came : S → Option (List ℕ)) (before now : S) (count have want : ℕ) : Type 0 where
  pub gave : GaveCount left came before now have
  pub few : have < count
  pub wanted : want ≡ count
  pub at_end : IsAtEnd (left now)

-- a head was not read: the link ended before its end, or no head ends where it may; else the link failed or memory was
-- wanting
abbrev pub IsHeadFault : {S : Type 0} (left came : S → Option (List ℕ)) (before now : S) → EdgeFault → Type 0
IsHeadFault left came before now LinkFault = Unit {0}
IsHeadFault left came before now (Ended have want) = EndedInHead left came before now have want
IsHeadFault left came before now BadHead = GaveEndless left came before now longest_head
IsHeadFault left came before now BadMethod = ⊥
IsHeadFault left came before now BadPath = ⊥
IsHeadFault left came before now Encoded = ⊥
IsHeadFault left came before now NoLength = ⊥
IsHeadFault left came before now (TooBig length) = ⊥
IsHeadFault left came before now (Status code) = ⊥
IsHeadFault left came before now NoMemory = Unit {0}

-- a body of so many bytes was not read: the link ended before its end; else the link failed or memory was wanting
abbrev pub IsBodyFault : {S : Type 0} (left came : S → Option (List ℕ)) (before now : S) → ℕ → EdgeFault → Type 0
IsBodyFault left came before now count LinkFault = Unit {0}
IsBodyFault left came before now count (Ended have want) = EndedInBody left came before now count have want
IsBodyFault left came before now count BadHead = ⊥
IsBodyFault left came before now count BadMethod = ⊥
IsBodyFault left came before now count BadPath = ⊥
IsBodyFault left came before now count Encoded = ⊥
IsBodyFault left came before now count NoLength = ⊥
IsBodyFault left came before now count (TooBig length) = ⊥
IsBodyFault left came before now count (Status code) = ⊥
IsBodyFault left came before now count NoMemory = Unit {0}
