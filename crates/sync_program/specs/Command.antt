-- The words of the command line.
use Rattle.std.specs.Prelude.{◌≡◌, ◌≢◌, ℕ, List, [], ◌∷◌, codes}
use Rattle.message_text.specs.declared.message.Direction.{Direction}
use Rattle.message_text.specs.declared.message.Direction.TheVariants.{ToServer, FromServer}
use Rattle.sync_program.specs.declared.command.Command.{Command}
use Rattle.sync_program.specs.declared.command.Command.TheVariants.{Replay, Wire}
use Rattle.sync_program.specs.declared.command.Look.{Look}
use Rattle.sync_program.specs.declared.command.Look.TheVariants.{Check, Show}
use Rattle.sync_program.specs.declared.status.Status.{Status}
use Rattle.sync_program.specs.declared.status.Status.TheVariants.{Usage}
use Rattle.sync_program.specs.Texts.{unknown_words_line}
use Rattle.sync_program.specs.Outside.{Reading, Writing, Printed}
use Rattle.sync_program.specs.Work.{Work}
use Rattle.sync_program.specs.Replay.{replaying}
use Rattle.sync_program.specs.Wire.{looking}

-- the word of the command that replays a schedule
unfoldable pub replay_word : List ℕ
replay_word = codes "replay"

-- the first word of the commands that look into a message
unfoldable pub wire_word : List ℕ
wire_word = codes "wire"

-- the word that says how to look
unfoldable pub look_word : Look → List ℕ
look_word Check = codes "check"
look_word Show = codes "show"

-- the word that says which way a message goes
unfoldable pub direction_word : Direction → List ℕ
direction_word ToServer = codes "to"
direction_word FromServer = codes "from"

-- the words of a command
abbrev pub words_of : Command → List (List ℕ)
words_of Replay = replay_word ∷ []
words_of (Wire command) = wire_word ∷ look_word command.look ∷ direction_word command.direction ∷ []

-- what a command does
abbrev pub work_of : Command → Work
work_of Replay = replaying
work_of (Wire command) = looking command

-- the words are those of no command
abbrev pub AreUnknown : List (List ℕ) → Type 0
AreUnknown words = (command : Command) → words ≢ words_of command

-- the words were refused, and the source was left alone
pub record IsUnknown {S O : Type 0} (status : Status) (r : Reading S) (w : Writing O) : Type 0 where
  pub is_usage : status ≡ Usage
  pub is_untouched : r.now ≡ r.before
  pub printed : Printed w unknown_words_line
