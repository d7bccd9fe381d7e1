use Rattle.http_edge.proofs.OneAnswer.{requests_have_one_answer}
use Rattle.http_edge.proofs.laws.requests_have_one_answer.Goals as goal

pub returns : goal.returns
returns c = requests_have_one_answer
