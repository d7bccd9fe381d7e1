-- What holds of the messages on links, whoever reads or writes them.
use Rattle.std.specs.Prelude.{◌≡◌, ◌≤◌, ◌++◌, length, Ok, ℕ, List, Result}
use Rattle.http_edge.specs.Requests.{RequestSays}
use Rattle.http_edge.specs.Replies.{ReplySays}
use Rattle.http_edge.specs.Messages.{IsAnswer}
use Rattle.http_edge.specs.Fields.{longest_body}
use Rattle.http_edge.specs.Written.{request_bytes, reply_bytes}
use Rattle.http_edge.specs.declared.fault.EdgeFault.{EdgeFault}

-- the bytes of a link have one answer at most, and one rest is left unread
abbrev pub HaveOneAnswer : (List ℕ → Result ℕ EdgeFault → Type 0) → Type 0
HaveOneAnswer Says =
    (bytes : List ℕ) (answer other : Result (List ℕ) EdgeFault) (rest left : List ℕ)
    → IsAnswer Says bytes answer rest → IsAnswer Says bytes other left → (answer ≡ other) × (rest ≡ left)

-- the bytes of a link have one answer at most as a request
abbrev pub RequestsHaveOneAnswer : Type 0
RequestsHaveOneAnswer = HaveOneAnswer RequestSays

-- the bytes of a link have one answer at most as a reply
abbrev pub RepliesHaveOneAnswer : Type 0
RepliesHaveOneAnswer = HaveOneAnswer ReplySays

-- a request that was written with a body within the limit is read as this body, whatever follows it
abbrev pub WrittenRequestsAreRead : Type 0
WrittenRequestsAreRead =
    (body rest : List ℕ) → length body ≤ longest_body → IsAnswer RequestSays (request_bytes body ++ rest) (Ok body) rest

-- a reply that was written with the code 200 and a body within the limit is read as this body, whatever follows it
abbrev pub WrittenRepliesAreRead : Type 0
WrittenRepliesAreRead =
    (body rest : List ℕ) → length body ≤ longest_body → IsAnswer ReplySays (reply_bytes 200 body ++ rest) (Ok body) rest
