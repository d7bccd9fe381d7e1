use Rattle.wire_format.proofs.OneFault.{one_fault}
use Rattle.wire_format.proofs.laws.bytes_have_one_fault.Goals as goal

pub returns : goal.returns
returns c = one_fault
