use Rattle.http_edge.proofs.ReadBack.{replies_are_read_back}
use Rattle.http_edge.proofs.laws.written_replies_are_read.Goals as goal

pub returns : goal.returns
returns c = replies_are_read_back
