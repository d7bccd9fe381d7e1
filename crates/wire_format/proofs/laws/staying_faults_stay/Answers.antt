use Rattle.wire_format.proofs.StayingFaults.{stays_on}
use Rattle.wire_format.proofs.laws.staying_faults_stay.Goals as goal

pub returns : goal.returns
returns c = stays_on
