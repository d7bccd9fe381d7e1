use Rattle.wire_format.proofs.OneField.{one_field}
use Rattle.wire_format.proofs.laws.one_field_stands_at_a_front.Goals as goal

pub returns : goal.returns
returns c = one_field
