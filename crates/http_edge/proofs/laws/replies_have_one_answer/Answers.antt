use Rattle.http_edge.proofs.OneAnswer.{replies_have_one_answer}
use Rattle.http_edge.proofs.laws.replies_have_one_answer.Goals as goal

pub returns : goal.returns
returns c = replies_have_one_answer
