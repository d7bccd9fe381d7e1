use Rattle.wire_format.proofs.Joining.{fields_together, fault_moves}
use Rattle.wire_format.proofs.laws.fields_join.Goals as goal

pub returns-clause-fields : goal.returns-clause-fields
returns-clause-fields c = fields_together

pub returns-clause-faults : goal.returns-clause-faults
returns-clause-faults c = fault_moves
