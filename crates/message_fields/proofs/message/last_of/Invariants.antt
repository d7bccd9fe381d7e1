use Rattle.std.proofs.Common.{◌≡◌, drop}
use Rattle.std.specs.List.{filter, last_or}
use Rattle.message_fields.specs.Lookups.{last_of, has_number}
use Rattle.message_fields.proofs.message.last_of.Given as goal

abbrev pub invariant-loop-field : goal.invariant-loop-field
invariant-loop-field l =
    last_or l.last (filter (has_number l.number) (drop l.field-index l.fields)) ≡ last_of l.fn.number l.fn.fields
