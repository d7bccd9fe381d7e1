use Rattle.sync_messages.proofs.OneMessage.{one_entity, one_request, one_reply}
use Rattle.sync_messages.proofs.laws.bytes_say_one_message.Goals as goal

pub returns-clause-entities : goal.returns-clause-entities
returns-clause-entities c = one_entity

pub returns-clause-requests : goal.returns-clause-requests
returns-clause-requests c = one_request

pub returns-clause-replies : goal.returns-clause-replies
returns-clause-replies c = one_reply
