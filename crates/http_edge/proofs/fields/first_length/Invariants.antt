use Rattle.std.proofs.Common.{◌≡◌, map, drop}
use Rattle.std.specs.List.{find}
use Rattle.httparse.specs.Spans.{header_bytes}
use Rattle.http_edge.specs.Fields.{is_length}
use Rattle.http_edge.proofs.fields.first_length.Given as goal

-- the first one is among those that are left
abbrev pub invariant-loop-field : goal.invariant-loop-field
invariant-loop-field l =
    find is_length (map (header_bytes l.head) (drop l.field-index l.fields)) ≡ find is_length (map (header_bytes l.head) l.fields)
