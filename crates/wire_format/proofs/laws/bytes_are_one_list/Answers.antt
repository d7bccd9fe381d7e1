use Rattle.wire_format.proofs.ListsOfFields.{one_list, lists_are_fields}
use Rattle.wire_format.proofs.laws.bytes_are_one_list.Goals as goal

pub returns-clause-one : goal.returns-clause-one
returns-clause-one c = one_list

pub returns-clause-are_fields : goal.returns-clause-are_fields
returns-clause-are_fields c = lists_are_fields
