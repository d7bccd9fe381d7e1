-- The message at the front of a link's bytes: what it is answered with, and which bytes are left. What its head says is
-- a parameter, so that requests and replies are read alike.
use Rattle.std.specs.Prelude.{◌≡◌, ℕ, ◌≤◌, ◌⊎◌, List, ◌++◌, length, take, drop, nat_lt, Option, IfSome, Result, Ok, Err, if◌then◌else◌}
use Rattle.http_edge.specs.Heads.{longest_head, EndsAtEmptyLine, HasNoEmptyLine}
use Rattle.http_edge.specs.declared.fault.EdgeFault.{EdgeFault}
use Rattle.http_edge.specs.declared.fault.EdgeFault.TheVariants.{Ended, BadHead}

-- the body of the promised length at the front of these bytes; or the fault that the head shows, or that they are too few
abbrev pub body_of : Result ℕ EdgeFault → List ℕ → Result (List ℕ) EdgeFault
body_of (Err fault) bytes = Err fault
body_of (Ok count) bytes = if nat_lt (length bytes) count then Err (Ended (length bytes) count) else Ok (take count bytes)

-- the bytes behind that body; all of them where the head has a fault
abbrev pub behind_body : Result ℕ EdgeFault → List ℕ → List ℕ
behind_body (Err fault) bytes = bytes
behind_body (Ok count) bytes = drop count bytes

-- the fault of bytes that have no head's end where one may stand: they are too few, or else it is a bad head
abbrev pub headless : ℕ → EdgeFault
headless count = if nat_lt count longest_head then Ended count 0 else BadHead

-- the bytes begin with a head, and with what it promises behind it
pub record HasHead (Says : List ℕ → Result ℕ EdgeFault → Type 0) (bytes : List ℕ) (answer : Result (List ℕ) EdgeFault) (rest : List ℕ) : Type 0 where
  pub head : List ℕ
  pub behind : List ℕ
  pub parts : bytes ≡ head ++ behind
  pub ends : EndsAtEmptyLine head
  pub fits : length head ≤ longest_head
  pub promise : Result ℕ EdgeFault
  pub says : Says head promise
  pub answer_is : answer ≡ body_of promise behind
  pub rest_is : rest ≡ behind_body promise behind

-- no head ends in the bytes where one may end
pub record HasNoHead (bytes : List ℕ) (answer : Result (List ℕ) EdgeFault) (rest : List ℕ) : Type 0 where
  pub endless : HasNoEmptyLine (take longest_head bytes)
  pub answer_is : answer ≡ Err (headless (length bytes))
  pub rest_is : rest ≡ drop longest_head bytes

-- a link that gives these bytes before its end is answered so, and that rest of them is left unread
abbrev pub IsAnswer : (List ℕ → Result ℕ EdgeFault → Type 0) → List ℕ → Result (List ℕ) EdgeFault → List ℕ → Type 0
IsAnswer Says bytes answer rest = HasHead Says bytes answer rest ⊎ HasNoHead bytes answer rest

-- a link that told these bytes before, and tells that rest now, is answered so, where it tells
abbrev pub Answers : (List ℕ → Result ℕ EdgeFault → Type 0) → Option (List ℕ) → Option (List ℕ) → Result (List ℕ) EdgeFault → Type 0
Answers Says before now answer = IfSome before (λ bytes. IfSome now (λ rest. IsAnswer Says bytes answer rest))
