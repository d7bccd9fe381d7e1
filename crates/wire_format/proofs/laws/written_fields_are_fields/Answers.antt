use Rattle.wire_format.proofs.WrittenFields.{varint_field_is, bytes_field_is, group_field_is}
use Rattle.wire_format.proofs.laws.written_fields_are_fields.Goals as goal

pub returns-clause-varints : goal.returns-clause-varints
returns-clause-varints c = varint_field_is

pub returns-clause-bytes : goal.returns-clause-bytes
returns-clause-bytes c = bytes_field_is

pub returns-clause-groups : goal.returns-clause-groups
returns-clause-groups c = group_field_is
