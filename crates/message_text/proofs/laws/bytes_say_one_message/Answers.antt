use Rattle.message_text.proofs.OneMessage.{one_message}
use Rattle.message_text.proofs.laws.bytes_say_one_message.Goals as goal

pub returns : goal.returns
returns c = one_message c.bytes_say_one_message.ensures.requests c.bytes_say_one_message.ensures.replies
