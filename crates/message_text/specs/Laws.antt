-- What holds of all messages here, by the definitions alone.
use Rattle.sync_specifics.specs.Laws.{SayOneThing}
use Rattle.message_text.specs.declared.message.Direction.{Direction}
use Rattle.message_text.specs.Messages.{Says}

-- bytes say one message of a direction at most
abbrev pub SayOneMessage : Type 0
SayOneMessage = (direction : Direction) → SayOneThing (Says direction)
