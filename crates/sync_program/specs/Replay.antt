-- What a replay does with a text.
use Rattle.std.specs.Prelude.{◌≡◌, ℕ, List, Option}
use Rattle.sync_model.specs.declared.event.Schedule.{Schedule}
use Rattle.sync_model.specs.Lawful.{IsLawful}
use Rattle.sync_model.specs.Worlds.{world_of}
use Rattle.run_setting.specs.Hashed.{hashed}
use Rattle.replay_world.specs.Reports.{full_report}
use Rattle.schedule_text.specs.declared.fault.LineReason.{LineReason}
use Rattle.schedule_text.specs.Spelling.{Spells}
use Rattle.schedule_text.specs.Refusals.{IsRefused}
use Rattle.sync_program.specs.declared.status.Status.TheVariants.{BadSchedule}
use Rattle.sync_program.specs.Texts.{bad_schedule_line}
use Rattle.sync_program.specs.Outside.{TellsInput}
use Rattle.sync_program.specs.Work.{Work}

-- how many bytes a schedule may have
abbrev pub MAX_TEXT : ℕ
MAX_TEXT = 1048576

-- the report of the world that a schedule makes, with the digest of its wire record
unfoldable pub report_of : Schedule → List ℕ
report_of schedule = full_report (world_of hashed schedule)

-- a text spells a schedule, this is the report of its world, and that is lawful
pub record IsReplayed (text output : List ℕ) : Type 0 where
  pub schedule : Schedule
  pub spells : Spells text schedule
  pub is_report : output ≡ report_of schedule
  pub lawful : IsLawful hashed schedule

-- a text is refused at a line for a reason, and this line says so
pub record IsNoSchedule (text line : List ℕ) : Type 0 where
  pub number : ℕ
  pub reason : LineReason
  pub is_refused : IsRefused text number reason
  pub says_so : line ≡ bad_schedule_line number reason

-- replaying: a schedule gives the report of its world
abbrev pub replaying : Work
replaying = record { limit = MAX_TEXT; Gives = IsReplayed; refusal = BadSchedule; Refuses = IsNoSchedule }

-- the source tells that it has a schedule's text left, which is not too long
abbrev pub TellsSchedule : Option (List ℕ) → Schedule → Type 0
TellsSchedule left schedule = TellsInput left MAX_TEXT (λ text. Spells text schedule)
