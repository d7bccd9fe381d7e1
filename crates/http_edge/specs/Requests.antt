-- What the head of a request says (RFC 9112, sections 2 to 6).
use Rattle.std.specs.Prelude.{◌≡◌, ℕ, ◌≤◌, ◌⊎◌, List, [], length, map, Bool, ◌||◌, not, codes, Result, Err, if◌then◌else◌}
use Rattle.std.specs.List.{starts_with}
use Rattle.std.specs.Bool.{nat_eq}
use Rattle.httparse.specs.Grammar.{RequestHead, ReadsRequest}
use Rattle.httparse.specs.Spans.{name_and_value}
use Rattle.http_edge.specs.Heads.{most_fields}
use Rattle.http_edge.specs.Fields.{is_same, body_length}
use Rattle.http_edge.specs.declared.fault.EdgeFault.{EdgeFault}
use Rattle.http_edge.specs.declared.fault.EdgeFault.TheVariants.{BadHead, BadMethod, BadPath}

-- all of the bytes are this head of a request, and it has not too many fields
pub record IsRequest (bytes : List ℕ) (head : RequestHead) : Type 0 where
  pub reads : ReadsRequest bytes head []
  pub fields : length head.fields ≤ most_fields

-- the method is POST
unfoldable pub is_post : List ℕ → Bool
is_post method = is_same method (codes "POST")

-- the target is the command's path, with or without a query
unfoldable pub is_command_path : List ℕ → Bool
is_command_path target = is_same target (codes "/command/") || starts_with nat_eq target (codes "/command/?")

-- the length of the body that the head promises, or the first fault of the request that it shows
abbrev pub request_says : RequestHead → Result ℕ EdgeFault
request_says head =
    if not (is_post head.method) then Err BadMethod
    else if not (is_command_path head.target) then Err BadPath
    else body_length (map name_and_value head.fields)

-- the bytes are the head of a request which says so; or they are no such head, and it is a bad one
abbrev pub RequestSays : List ℕ → Result ℕ EdgeFault → Type 0
RequestSays bytes says =
    ((head : RequestHead) × IsRequest bytes head × (says ≡ request_says head))
    ⊎ (((head : RequestHead) → ¬ (IsRequest bytes head)) × (says ≡ Err BadHead))
