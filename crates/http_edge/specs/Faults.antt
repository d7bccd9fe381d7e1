-- Why a message was not read or written, and what a client is told.
use Rattle.std.specs.Prelude.{◌≡◌, ℕ, ◌⊎◌, Option, Some, None, Result, Ok, Err}
use Rattle.outer_edge.specs.Faults.{Rose}
use Rattle.http_edge.specs.declared.fault.EdgeFault.{EdgeFault}
use Rattle.http_edge.specs.declared.fault.EdgeFault.TheVariants.{LinkFault, Ended, BadHead, BadMethod, BadPath, Encoded, NoLength, TooBig, Status, NoMemory}

-- the status code of the reply to a request with this fault (RFC 9110, section 15.5); none where no reply is due
abbrev pub reply_code : EdgeFault → Option ℕ
reply_code LinkFault = None
reply_code (Ended have want) = None
reply_code BadHead = Some 400
reply_code BadMethod = Some 405
reply_code BadPath = Some 404
reply_code Encoded = Some 415
reply_code NoLength = Some 411
reply_code (TooBig length) = Some 413
reply_code (Status code) = None
reply_code NoMemory = None

-- the fault is the link's, and this holds; or it is not, and that holds
abbrev pub IfLinkFault : EdgeFault → Type 0 → Type 0 → Type 0
IfLinkFault LinkFault failed else = failed
IfLinkFault (Ended have want) failed else = else
IfLinkFault BadHead failed else = else
IfLinkFault BadMethod failed else = else
IfLinkFault BadPath failed else = else
IfLinkFault Encoded failed else = else
IfLinkFault NoLength failed else = else
IfLinkFault (TooBig length) failed else = else
IfLinkFault (Status code) failed else = else
IfLinkFault NoMemory failed else = else

-- a fault of the link comes where its count rose, and any other where it did not
abbrev pub HasCause : EdgeFault → ℕ → ℕ → Type 0
HasCause fault before now = IfLinkFault fault (Rose before now) (now ≡ before)

-- the same over a link: one of its two counts rose, that of reads or that of writes; or neither did
abbrev pub HasLinkCause : EdgeFault → (reads reads_now writes writes_now : ℕ) → Type 0
HasLinkCause fault reads reads_now writes writes_now =
    IfLinkFault fault (Rose reads reads_now ⊎ Rose writes writes_now) ((reads_now ≡ reads) × (writes_now ≡ writes))

-- the fault is none of a message: the link failed, or memory was wanting
abbrev pub IsOutside : EdgeFault → Type 0
IsOutside fault = (fault ≡ LinkFault) ⊎ (fault ≡ NoMemory)

-- the answer is the bytes' own, and this holds of it: neither did the link fail nor was memory wanting
abbrev pub IfAnswered : {T : Type 0} → Result T EdgeFault → Type 0 → Type 0
IfAnswered (Ok value) P = P
IfAnswered (Err LinkFault) P = Unit {0}
IfAnswered (Err (Ended have want)) P = P
IfAnswered (Err BadHead) P = P
IfAnswered (Err BadMethod) P = P
IfAnswered (Err BadPath) P = P
IfAnswered (Err Encoded) P = P
IfAnswered (Err NoLength) P = P
IfAnswered (Err (TooBig length)) P = P
IfAnswered (Err (Status code)) P = P
IfAnswered (Err NoMemory) P = Unit {0}
