use Rattle.std.proofs.Common.{◌≡◌, ◌++◌, drop}
use Rattle.message_fields.specs.Lookups.{parts_of}
use Rattle.message_fields.proofs.message.parts_of.Given as goal

abbrev pub invariant-loop-field : goal.invariant-loop-field
invariant-loop-field l =
    l.parts.items ++ parts_of l.number (drop l.field-index l.fields) ≡ parts_of l.fn.number l.fn.fields
