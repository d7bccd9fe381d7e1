use Rattle.http_edge.proofs.ReadBack.{requests_are_read_back}
use Rattle.http_edge.proofs.laws.written_requests_are_read.Goals as goal

pub returns : goal.returns
returns c = requests_are_read_back
