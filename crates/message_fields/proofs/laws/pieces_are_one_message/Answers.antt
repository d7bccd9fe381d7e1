use Rattle.message_fields.proofs.OneMessage.{one_message, one_whole_message}
use Rattle.message_fields.proofs.laws.pieces_are_one_message.Goals as goal

pub returns-clause-known : goal.returns-clause-known
returns-clause-known c = one_message

pub returns-clause-whole : goal.returns-clause-whole
returns-clause-whole c = one_whole_message
