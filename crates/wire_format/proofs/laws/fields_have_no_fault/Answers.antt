use Rattle.wire_format.proofs.NoFault.{fields_have_no_fault}
use Rattle.wire_format.proofs.laws.fields_have_no_fault.Goals as goal

pub returns : goal.returns
returns c = fields_have_no_fault
