-- What the head of a reply says (RFC 9112, sections 2 to 6).
use Rattle.std.specs.Prelude.{◌≡◌, ℕ, ◌≤◌, ◌==◌, ◌⊎◌, List, [], length, map, Result, Err, if◌then◌else◌}
use Rattle.httparse.specs.Grammar.{ResponseHead, ReadsResponse, status_code}
use Rattle.httparse.specs.Spans.{name_and_value}
use Rattle.http_edge.specs.Heads.{most_fields}
use Rattle.http_edge.specs.Fields.{body_length}
use Rattle.http_edge.specs.declared.fault.EdgeFault.{EdgeFault}
use Rattle.http_edge.specs.declared.fault.EdgeFault.TheVariants.{BadHead, Status}

-- all of the bytes are this head of a reply, and it has not too many fields
pub record IsReply (bytes : List ℕ) (head : ResponseHead) : Type 0 where
  pub reads : ReadsResponse bytes head []
  pub fields : length head.fields ≤ most_fields

-- the length of the body that the head promises, or the first fault of the reply that it shows
abbrev pub reply_says : ResponseHead → Result ℕ EdgeFault
reply_says head =
    if status_code head == 200 then body_length (map name_and_value head.fields) else Err (Status (status_code head))

-- the bytes are the head of a reply which says so; or they are no such head, and it is a bad one
abbrev pub ReplySays : List ℕ → Result ℕ EdgeFault → Type 0
ReplySays bytes says =
    ((head : ResponseHead) × IsReply bytes head × (says ≡ reply_says head))
    ⊎ (((head : ResponseHead) → ¬ (IsReply bytes head)) × (says ≡ Err BadHead))
