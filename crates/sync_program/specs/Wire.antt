-- What the commands do that look into a message.
use Rattle.std.specs.Prelude.{◌≡◌, ◌↔◌, ℕ, Bool, IsTrue, List, Ok, Err}
use Rattle.message_fields.specs.declared.fault.MessageFault.{MessageFault}
use Rattle.message_text.specs.declared.message.WireMessage.{WireMessage}
use Rattle.message_text.specs.Messages.{Says, canonical_bytes}
use Rattle.message_text.specs.Texts.{shown_text, checked_text}
use Rattle.sync_program.specs.declared.command.Look.{Look}
use Rattle.sync_program.specs.declared.command.Look.TheVariants.{Check, Show}
use Rattle.sync_program.specs.declared.command.WireCommand.{WireCommand}
use Rattle.sync_program.specs.declared.status.Status.TheVariants.{BadMessage}
use Rattle.sync_program.specs.Texts.{bad_message_line}
use Rattle.sync_program.specs.Work.{Work}

-- how many bytes a message may have
abbrev pub MAX_MESSAGE : ℕ
MAX_MESSAGE = 16777216

-- what is printed of a message, whose bytes may be its canonical ones
abbrev pub look_text : Look → WireMessage → Bool → List ℕ
look_text Check message canonical = checked_text canonical
look_text Show message canonical = shown_text message canonical

-- the bytes say a message; this is what is printed of it, and whether they are its canonical bytes
pub record IsLookedInto (command : WireCommand) (bytes output : List ℕ) : Type 0 where
  pub message : WireMessage
  pub says : Says command.direction bytes (Ok message)
  pub canonical : Bool
  pub is_canonical : IsTrue canonical ↔ (bytes ≡ canonical_bytes message)
  pub is_output : output ≡ look_text command.look message canonical

-- the bytes are no message, and this line says where and why
pub record IsNoMessage (command : WireCommand) (bytes line : List ℕ) : Type 0 where
  pub fault : MessageFault
  pub says : Says command.direction bytes (Err fault)
  pub says_so : line ≡ bad_message_line fault

-- looking into a message
abbrev pub looking : WireCommand → Work
looking command = record {
  limit = MAX_MESSAGE;
  Gives = IsLookedInto command;
  refusal = BadMessage;
  Refuses = IsNoMessage command;
}
