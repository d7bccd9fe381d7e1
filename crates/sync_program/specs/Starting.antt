-- What a run does with the words of the command line.
use Rattle.std.specs.Prelude.{◌≡◌, ◌≢◌, ◌⊎◌, ℕ, ◌+◌, List, [], ◌∷◌}
use Rattle.std.specs.declared.io.ErrorKind.{ErrorKind}
use Rattle.std.specs.declared.io.ErrorKind.TheVariants.{OutOfMemory}
use Rattle.outer_edge.specs.Source.{GaveUpTo}
use Rattle.sync_model.specs.declared.event.Schedule.{Schedule}
use Rattle.sync_program.specs.declared.command.Command.{Command}
use Rattle.sync_program.specs.declared.command.Command.TheVariants.{Replay}
use Rattle.sync_program.specs.declared.status.Status.{Status}
use Rattle.sync_program.specs.declared.status.Status.TheVariants.{NoMemory}
use Rattle.sync_program.specs.Command.{AreUnknown, IsUnknown, words_of, work_of}
use Rattle.sync_program.specs.Texts.{no_memory_line}
use Rattle.sync_program.specs.Outside.{Reading, Writing, SourceFailed, SinkFailed, TellsInput, TellsTooMuch, Printed}
use Rattle.sync_program.specs.Work.{HasCause, GivesOutput, GivesRefusal, RefusesLength, IsOkOrNoMemory}
use Rattle.sync_program.specs.Replay.{TellsSchedule, report_of}

-- the words behind the program's name, which comes first
abbrev pub words_after_name : List (List ℕ) → List (List ℕ)
words_after_name [] = []
words_after_name (name ∷ words) = words

-- what the words say was done, or they say nothing and were refused
pub record IsRun {S O : Type 0} (words : List (List ℕ)) (status : Status) (r : Reading S) (w : Writing O) : Type 0 where
  -- a schedule gives just its report
  pub replays : words ≡ words_of Replay → (schedule : Schedule) → TellsSchedule (r.left r.before) schedule
      → GivesOutput (report_of schedule) status r w
  -- an input gives just the output that the command makes of it
  pub gives : (command : Command) → words ≡ words_of command → (text : List ℕ)
      → TellsInput (r.left r.before) (work_of command).limit (λ bytes. (work_of command).Gives bytes text)
      → GivesOutput text status r w
  -- each status has its cause
  pub cause : (command : Command) → words ≡ words_of command → HasCause (work_of command) status r w
  pub other_words : AreUnknown words → IsUnknown status r w
  -- an input that is refused, or too long, gives the status that says so
  pub refuses : (command : Command) → words ≡ words_of command → (line : List ℕ)
      → TellsInput (r.left r.before) (work_of command).limit (λ bytes. (work_of command).Refuses bytes line)
      → GivesRefusal (work_of command).refusal line status r w
  pub refuses_length : (command : Command) → words ≡ words_of command
      → TellsTooMuch (r.left r.before) (work_of command).limit → RefusesLength status r
  -- where nothing outside failed, an input that gives an output gives status 0, or memory was wanting
  pub completes : (command : Command) → words ≡ words_of command → (text : List ℕ)
      → TellsInput (r.left r.before) (work_of command).limit (λ bytes. (work_of command).Gives bytes text)
      → (SourceFailed r → ⊥) → (SinkFailed w → ⊥) → IsOkOrNoMemory status
  pub gave_some : (command : Command) → words ≡ words_of command
      → GaveUpTo r.left r.came r.before r.now ((work_of command).limit + 1)

-- memory was wanting for the words, and the source was left alone
pub record LacksMemory {S O : Type 0} (status : Status) (r : Reading S) (w : Writing O) : Type 0 where
  pub is_no_memory : status ≡ NoMemory
  pub is_untouched : r.now ≡ r.before
  pub printed : Printed w no_memory_line

-- what the words say was done, unless memory was wanting for them
abbrev pub IsRunIfHeld : {S O : Type 0} → List (List ℕ) → Status → Reading S → Writing O → Type 0
IsRunIfHeld words status r w = IsRun words status r w ⊎ LacksMemory status r w

-- The system handed over no words, with an error of this kind: memory was wanting for them, or one of them is no
-- text, and so none that the program knows.
pub record HasNoWords {S O : Type 0} (kind : ErrorKind) (status : Status) (r : Reading S) (w : Writing O) : Type 0 where
  pub no_memory : kind ≡ OutOfMemory → LacksMemory status r w
  pub no_text : kind ≢ OutOfMemory → IsUnknown status r w
