-- What is said of the command that was run is said of each command with the same words.
use Rattle.std.proofs.Common.{◌≡◌, ℕ, ◌+◌, List, [], length, get_or, refl, ap, sym, subst, ◌∙◌, arith}
use Rattle.std.specs.Prelude.{Option}
use Rattle.outer_edge.specs.Source.{GaveUpTo}
use Rattle.message_text.specs.declared.message.Direction.{Direction}
use Rattle.message_text.specs.declared.message.Direction.TheVariants.{ToServer, FromServer}
use Rattle.sync_model.specs.declared.event.Schedule.{Schedule}
use Rattle.schedule_text.specs.declared.fault.LineReason.{LineReason}
use Rattle.schedule_text.specs.Refusals.{IsRefused}
use Rattle.sync_program.specs.declared.command.Command.{Command}
use Rattle.sync_program.specs.declared.command.Command.TheVariants.{Replay, Wire}
use Rattle.sync_program.specs.declared.command.Look.{Look}
use Rattle.sync_program.specs.declared.command.Look.TheVariants.{Check, Show}
use Rattle.sync_program.specs.declared.command.WireCommand.{WireCommand}
use Rattle.sync_program.specs.declared.status.Status.{Status}
use Rattle.sync_program.specs.declared.status.Status.TheVariants.{BadSchedule, BadMessage}
use Rattle.sync_program.specs.Command.{look_word, direction_word, words_of, work_of, AreUnknown, IsUnknown}
use Rattle.sync_program.specs.Texts.{bad_schedule_line}
use Rattle.sync_program.specs.Outside.{Reading, Writing, SourceFailed, SinkFailed, TellsInput, TellsTooMuch}
use Rattle.sync_program.specs.Work.{Work, HasCause, GivesOutput, GivesRefusal, RefusesLength, IsOkOrNoMemory}
use Rattle.sync_program.specs.Wire.{MAX_MESSAGE, IsLookedInto, IsNoMessage, looking}
use Rattle.sync_program.specs.Starting.{IsRun}
use Rattle.sync_program.specs.Replay.{MAX_TEXT, IsReplayed, TellsSchedule, report_of, replaying}

-- one word says one way to look
same_look : (a b : Look) → look_word a ≡ look_word b → a ≡ b
unfolding look_word
same_look Check Check same = refl
same_look Check Show same = absurd (omega (arith, ap (λ (word : List ℕ). get_or word 0 0) same))
same_look Show Check same = absurd (omega (arith, ap (λ (word : List ℕ). get_or word 0 0) same))
same_look Show Show same = refl

-- one word says one direction
same_direction : (a b : Direction) → direction_word a ≡ direction_word b → a ≡ b
unfolding direction_word
same_direction ToServer ToServer same = refl
same_direction ToServer FromServer same = absurd (omega (arith, ap (λ (word : List ℕ). get_or word 0 0) same))
same_direction FromServer ToServer same = absurd (omega (arith, ap (λ (word : List ℕ). get_or word 0 0) same))
same_direction FromServer FromServer same = refl

-- words are those of one command at most
same_command : (a b : Command) → words_of a ≡ words_of b → a ≡ b
same_command Replay Replay same = refl
same_command Replay (Wire b) same = absurd (omega (arith, ap length same))
same_command (Wire a) Replay same = absurd (omega (arith, ap length same))
same_command (Wire a) (Wire b) same =
    ap (λ (look : Look). Wire (record { look = look; direction = a.direction }))
    (same_look a.look b.look (ap (λ (words : List (List ℕ)). get_or words 1 []) same))
    ∙ ap (λ (direction : Direction). Wire (record { look = b.look; direction = direction }))
    (same_direction a.direction b.direction (ap (λ (words : List (List ℕ)). get_or words 2 []) same))

-- what holds of the command that was run holds of the command that the words are
pub for_named : (P : Command → Type 0) (made command : Command) (words : List (List ℕ)) → words ≡ words_of made → words ≡ words_of command
    → P made → P command
for_named P made command words is_made is_named holds = subst P (same_command made command (sym is_made ∙ is_named)) holds

-- what is said of a work where the source tells its input
pub record Runs {S O : Type 0} (work : Work) (status : Status) (r : Reading S) (w : Writing O) : Type 0 where
  pub gives : (text : List ℕ) → TellsInput (r.left r.before) work.limit (λ input. work.Gives input text) → GivesOutput text status r w
  pub cause : HasCause work status r w
  pub refuses : (line : List ℕ) → TellsInput (r.left r.before) work.limit (λ input. work.Refuses input line)
      → GivesRefusal work.refusal line status r w
  pub refuses_length : TellsTooMuch (r.left r.before) work.limit → RefusesLength status r
  pub completes : (text : List ℕ) → TellsInput (r.left r.before) work.limit (λ input. work.Gives input text)
      → (SourceFailed r → ⊥) → (SinkFailed w → ⊥) → IsOkOrNoMemory status

-- it is said of the command that the words are
pub runs_named : {S O : Type 0} (status : Status) (r : Reading S) (w : Writing O) (made command : Command) (words : List (List ℕ))
    → words ≡ words_of made → words ≡ words_of command → Runs (work_of made) status r w → Runs (work_of command) status r w
runs_named status r w made command words is_made is_named runs =
    for_named (λ (named : Command). Runs (work_of named) status r w) made command words is_made is_named runs

-- a text that gives a report spells the schedule whose report it is
tells_schedule : (left : Option (List ℕ)) (text : List ℕ) → (tells : TellsInput left MAX_TEXT (λ input. IsReplayed input text))
    → TellsSchedule left tells.holds.schedule
tells_schedule left text tells =
    record { input = tells.input; told = tells.told; within = tells.within; holds = tells.holds.spells }

-- what is said of schedules is said of the work of replaying
pub replay_runs : {S O : Type 0} (status : Status) (r : Reading S) (w : Writing O)
    → ((schedule : Schedule) → TellsSchedule (r.left r.before) schedule → GivesOutput (report_of schedule) status r w)
    → HasCause replaying status r w
    → ((line : ℕ) (reason : LineReason) → TellsInput (r.left r.before) MAX_TEXT (λ text. IsRefused text line reason)
    → GivesRefusal BadSchedule (bad_schedule_line line reason) status r w)
    → (TellsTooMuch (r.left r.before) MAX_TEXT → RefusesLength status r)
    → ((schedule : Schedule) → TellsSchedule (r.left r.before) schedule → (SourceFailed r → ⊥) → (SinkFailed w → ⊥)
    → IsOkOrNoMemory status)
    → Runs replaying status r w
replay_runs status r w replays cause refuses refuses_length completes = record {
  gives = λ text tells.
      subst (λ (output : List ℕ). GivesOutput output status r w) (sym tells.holds.is_report)
      (replays tells.holds.schedule (tells_schedule (r.left r.before) text tells));
  cause = cause;
  refuses = λ line tells.
      subst (λ (told : List ℕ). GivesRefusal BadSchedule told status r w) (sym tells.holds.says_so)
      (refuses tells.holds.number tells.holds.reason
      (record { input = tells.input; told = tells.told; within = tells.within; holds = tells.holds.is_refused }));
  refuses_length = refuses_length;
  completes = λ text tells. completes tells.holds.schedule (tells_schedule (r.left r.before) text tells);
}

-- what is said of messages is said of the work of looking into them
pub wire_runs : (command : WireCommand) {S O : Type 0} (status : Status) (r : Reading S) (w : Writing O)
    → ((text : List ℕ) → TellsInput (r.left r.before) MAX_MESSAGE (λ bytes. IsLookedInto command bytes text)
    → GivesOutput text status r w)
    → HasCause (looking command) status r w
    → ((line : List ℕ) → TellsInput (r.left r.before) MAX_MESSAGE (λ bytes. IsNoMessage command bytes line)
    → GivesRefusal BadMessage line status r w)
    → (TellsTooMuch (r.left r.before) MAX_MESSAGE → RefusesLength status r)
    → ((text : List ℕ) → TellsInput (r.left r.before) MAX_MESSAGE (λ bytes. IsLookedInto command bytes text)
    → (SourceFailed r → ⊥) → (SinkFailed w → ⊥) → IsOkOrNoMemory status)
    → Runs (looking command) status r w
wire_runs command status r w gives cause refuses refuses_length completes = record {
  gives = gives;
  cause = cause;
  refuses = refuses;
  refuses_length = refuses_length;
  completes = completes;
}

-- words of a command are not unknown
known_words : (made : Command) (words : List (List ℕ)) → words ≡ words_of made → AreUnknown words → ⊥
known_words made words is_made unknown = unknown made is_made

-- a schedule gives just its report, whatever command was run for its words
pub replays_named : {S O : Type 0} (status : Status) (r : Reading S) (w : Writing O) (made : Command) (words : List (List ℕ))
    → words ≡ words_of made → (made ≡ Replay → (schedule : Schedule) → TellsSchedule (r.left r.before) schedule → GivesOutput (report_of schedule) status r w)
    → words ≡ words_of Replay → (schedule : Schedule) → TellsSchedule (r.left r.before) schedule → GivesOutput (report_of schedule) status r w
replays_named status r w made words is_made replays is_named = replays (same_command made Replay (sym is_made ∙ is_named))

-- what is said of the command that was run is said of its words
pub run_of : {S O : Type 0} (status : Status) (r : Reading S) (w : Writing O) (made : Command) (words : List (List ℕ))
    → words ≡ words_of made → Runs (work_of made) status r w → GaveUpTo r.left r.came r.before r.now ((work_of made).limit + 1)
    → (made ≡ Replay → (schedule : Schedule) → TellsSchedule (r.left r.before) schedule → GivesOutput (report_of schedule) status r w)
    → IsRun words status r w
run_of status r w made words is_made runs gave replays = record {
  replays = replays_named status r w made words is_made replays;
  gives = λ command named. (runs_named status r w made command words is_made named runs).gives;
  cause = λ command named. (runs_named status r w made command words is_made named runs).cause;
  other_words = λ unknown. absurd (known_words made words is_made unknown);
  refuses = λ command named. (runs_named status r w made command words is_made named runs).refuses;
  refuses_length = λ command named. (runs_named status r w made command words is_made named runs).refuses_length;
  completes = λ command named. (runs_named status r w made command words is_made named runs).completes;
  gave_some = λ command named. for_named (λ (named : Command). GaveUpTo r.left r.came r.before r.now ((work_of named).limit + 1)) made command words is_made named gave;
}

-- looking into a message is no replay
pub wire_is_no_replay : (command : WireCommand) → Wire command ≡ Replay → ⊥
wire_is_no_replay command same = absurd (omega (arith, ap (λ (named : Command). length (words_of named)) same))

-- words of no command were refused
pub run_of_none : {S O : Type 0} (status : Status) (r : Reading S) (w : Writing O) (words : List (List ℕ)) → AreUnknown words
    → IsUnknown status r w → IsRun words status r w
run_of_none status r w words unknown refused = record {
  replays = λ named. absurd (unknown Replay named);
  gives = λ command named. absurd (unknown command named);
  cause = λ command named. absurd (unknown command named);
  other_words = λ _. refused;
  refuses = λ command named. absurd (unknown command named);
  refuses_length = λ command named. absurd (unknown command named);
  completes = λ command named. absurd (unknown command named);
  gave_some = λ command named. absurd (unknown command named);
}
