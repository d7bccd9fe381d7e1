-- What a replay gives of a told text, said of schedules.
use Rattle.std.proofs.Common.{ℕ, List, refl}
use Rattle.std.specs.Prelude.{Option}
use Rattle.sync_model.specs.declared.event.Schedule.{Schedule}
use Rattle.schedule_text.specs.declared.fault.LineReason.{LineReason}
use Rattle.schedule_text.specs.Refusals.{IsRefused}
use Rattle.sync_program.specs.declared.status.Status.{Status}
use Rattle.sync_program.specs.declared.status.Status.TheVariants.{BadSchedule}
use Rattle.sync_program.specs.Texts.{bad_schedule_line}
use Rattle.sync_program.specs.Outside.{Reading, Writing, TellsInput}
use Rattle.sync_program.specs.Work.{IsDetermined, HasCause, GivesOutput, GivesRefusal}
use Rattle.sync_program.specs.Replay.{MAX_TEXT, IsReplayed, IsNoSchedule, report_of, replaying, TellsSchedule}
use Rattle.sync_program.proofs.LawfulRuns.{runs_are_lawful}
use Rattle.sync_program.proofs.Causes.{gives_from_cause, refuses_from_cause}

-- a text that spells a schedule gives its report
tells_report : (left : Option (List ℕ)) (schedule : Schedule) → TellsSchedule left schedule
    → TellsInput left MAX_TEXT (λ text. IsReplayed text (report_of schedule))
tells_report left schedule tells = record {
  input = tells.input;
  told = tells.told;
  within = tells.within;
  holds = record { schedule = schedule; spells = tells.holds; is_report = refl; lawful = runs_are_lawful schedule };
}

-- a text that is refused has the line that says so
tells_refusal : (left : Option (List ℕ)) (line : ℕ) (reason : LineReason) → TellsInput left MAX_TEXT (λ text. IsRefused text line reason)
    → TellsInput left MAX_TEXT (λ text. IsNoSchedule text (bad_schedule_line line reason))
tells_refusal left line reason tells = record {
  input = tells.input;
  told = tells.told;
  within = tells.within;
  holds = record { number = line; reason = reason; is_refused = tells.holds; says_so = refl };
}

-- a told schedule is the one whose report is written
pub replays_from_cause : IsDetermined replaying → {S O : Type 0} (status : Status) (r : Reading S) (w : Writing O) (schedule : Schedule)
    → HasCause replaying status r w → TellsSchedule (r.left r.before) schedule → GivesOutput (report_of schedule) status r w
replays_from_cause one status r w schedule cause tells =
    gives_from_cause replaying one status r w (report_of schedule) cause (tells_report (r.left r.before) schedule tells)

-- a told text that is refused is refused at that line, for that reason
pub refuses_schedule : IsDetermined replaying → {S O : Type 0} (status : Status) (r : Reading S) (w : Writing O) (line : ℕ)
    (reason : LineReason) → HasCause replaying status r w
    → TellsInput (r.left r.before) MAX_TEXT (λ text. IsRefused text line reason)
    → GivesRefusal BadSchedule (bad_schedule_line line reason) status r w
refuses_schedule one status r w line reason cause tells =
    refuses_from_cause replaying one status r w (bad_schedule_line line reason) cause (tells_refusal (r.left r.before) line reason tells)
