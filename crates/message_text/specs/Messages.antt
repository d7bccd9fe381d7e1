-- A message of either direction, and the bytes that say it.
use Rattle.std.specs.Prelude.{◌≡◌, ℕ, List, Result, Ok, Err}
use Rattle.message_fields.specs.declared.fault.MessageFault.{MessageFault}
use Rattle.sync_messages.specs.declared.message.ToServer.{ToServer}
use Rattle.sync_messages.specs.declared.message.FromServer.{FromServer}
use Rattle.sync_messages.specs.Requests.{SaysTo}
use Rattle.sync_messages.specs.Replies.{SaysFrom}
use Rattle.sync_messages.specs.Spellings.{to_bytes, from_bytes}
use Rattle.message_text.specs.declared.message.Direction.{Direction}
use Rattle.message_text.specs.declared.message.Direction.TheVariants as directions
use Rattle.message_text.specs.declared.message.WireMessage.{WireMessage}
use Rattle.message_text.specs.declared.message.WireMessage.TheVariants as messages

-- what is said of a message to a server, as it is said of a message of either direction
abbrev pub said_to : Result ToServer MessageFault → Result WireMessage MessageFault
said_to (Ok message) = Ok (messages.ToServer message)
said_to (Err fault) = Err fault

-- what is said of a message from a server, as it is said of a message of either direction
abbrev pub said_from : Result FromServer MessageFault → Result WireMessage MessageFault
said_from (Ok message) = Ok (messages.FromServer message)
said_from (Err fault) = Err fault

-- what these bytes say as a message of this direction
abbrev pub Says : Direction → List ℕ → Result WireMessage MessageFault → Type 0
Says directions.ToServer bytes said = (message : Result ToServer MessageFault) × SaysTo bytes message × (said ≡ said_to message)
Says directions.FromServer bytes said = (message : Result FromServer MessageFault) × SaysFrom bytes message × (said ≡ said_from message)

-- the canonical bytes of a message
abbrev pub canonical_bytes : WireMessage → List ℕ
canonical_bytes (messages.ToServer message) = to_bytes message
canonical_bytes (messages.FromServer message) = from_bytes message
