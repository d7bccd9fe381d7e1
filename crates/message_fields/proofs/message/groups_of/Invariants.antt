use Rattle.std.proofs.Common.{◌≡◌, ◌++◌, drop}
use Rattle.message_fields.specs.Lookups.{groups_of}
use Rattle.message_fields.proofs.message.groups_of.Given as goal

abbrev pub invariant-loop-field : goal.invariant-loop-field
invariant-loop-field l =
    l.parts.items ++ groups_of l.number (drop l.field-index l.fields) ≡ groups_of l.fn.number l.fn.fields
