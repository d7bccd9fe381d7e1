use Rattle.wire_format.proofs.WrittenFields.{least_varint, shortest}
use Rattle.wire_format.proofs.laws.least_varints_are_shortest.Goals as goal

pub returns-clause-are_varints : goal.returns-clause-are_varints
returns-clause-are_varints c = least_varint

pub returns-clause-are_shortest : goal.returns-clause-are_shortest
returns-clause-are_shortest c = shortest
