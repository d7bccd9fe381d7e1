use Rattle.sync_messages.proofs.SaidExtras.{said_entities, said_requests, said_replies}
use Rattle.sync_messages.proofs.laws.said_extras_are_canonical.Goals as goal

pub returns-clause-entities : goal.returns-clause-entities
returns-clause-entities c = said_entities

pub returns-clause-requests : goal.returns-clause-requests
returns-clause-requests c = said_requests

pub returns-clause-replies : goal.returns-clause-replies
returns-clause-replies c = said_replies
