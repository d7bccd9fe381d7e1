use Rattle.std.proofs.Common.{◌≡◌, map, drop}
use Rattle.std.specs.List.{list_any}
use Rattle.httparse.specs.Spans.{header_bytes}
use Rattle.http_edge.specs.Fields.{is_coding}
use Rattle.http_edge.proofs.fields.is_encoded.Given as goal

-- whether a field that is left is one
abbrev pub invariant-loop-field : goal.invariant-loop-field
invariant-loop-field l =
    list_any is_coding (map (header_bytes l.head) (drop l.field-index l.fields)) ≡ list_any is_coding (map (header_bytes l.head) l.fields)
