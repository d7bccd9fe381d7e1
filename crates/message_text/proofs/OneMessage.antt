-- Bytes say one message of a direction at most.
use Rattle.std.proofs.Common.{sym, ap, ◌∙◌}
use Rattle.sync_messages.specs.Laws.{SayOneRequest, SayOneReply}
use Rattle.message_text.specs.declared.message.Direction.TheVariants.{ToServer, FromServer}
use Rattle.message_text.specs.Messages.{said_to, said_from}
use Rattle.message_text.specs.Laws.{SayOneMessage}

-- it is so for each direction
pub one_message : SayOneRequest → SayOneReply → SayOneMessage
one_message request reply ToServer bytes said other one two =
    one.2 ∙ ap said_to (request bytes one.0 two.0 one.1 two.1) ∙ sym two.2
one_message request reply FromServer bytes said other one two =
    one.2 ∙ ap said_from (reply bytes one.0 two.0 one.1 two.1) ∙ sym two.2
