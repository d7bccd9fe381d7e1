use Rattle.std.proofs.Common.{◌≡◌, drop}
use Rattle.std.specs.List.{find}
use Rattle.message_fields.specs.Faults.{is_of_wrong_kind}
use Rattle.message_fields.proofs.message.first_of_wrong_kind.Given as goal

abbrev pub invariant-loop-field : goal.invariant-loop-field
invariant-loop-field l =
    find (is_of_wrong_kind l.known) (drop l.field-index l.fields) ≡ find (is_of_wrong_kind l.fn.known) l.fn.fields
