use Rattle.sync_messages.proofs.EntitiesRead.{entities_are_read}
use Rattle.sync_messages.proofs.RequestsRead.{requests_are_read}
use Rattle.sync_messages.proofs.RepliesRead.{replies_are_read}
use Rattle.sync_messages.proofs.laws.written_messages_are_read.Goals as goal

pub returns-clause-entities : goal.returns-clause-entities
returns-clause-entities c = entities_are_read

pub returns-clause-requests : goal.returns-clause-requests
returns-clause-requests c = requests_are_read

pub returns-clause-replies : goal.returns-clause-replies
returns-clause-replies c = replies_are_read
