use Rattle.std.proofs.Common.{◌≡◌, map, drop}
use Rattle.std.specs.List.{list_all}
use Rattle.httparse.specs.Spans.{header_bytes}
use Rattle.http_edge.specs.Fields.{agrees}
use Rattle.http_edge.proofs.fields.all_agree.Given as goal

-- whether those that are left agree
abbrev pub invariant-loop-field : goal.invariant-loop-field
invariant-loop-field l =
    list_all (agrees l.text) (map (header_bytes l.head) (drop l.field-index l.fields))
    ≡ list_all (agrees l.text) (map (header_bytes l.head) l.fields)
