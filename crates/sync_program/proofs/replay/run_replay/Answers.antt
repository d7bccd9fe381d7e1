use Rattle.sync_program.proofs.Causes.{length_from_cause, completes_from_gives}
use Rattle.sync_program.proofs.Replaying.{replays_from_cause, refuses_schedule}
use Rattle.sync_program.proofs.Works.{replaying-IsDetermined}
use Rattle.sync_program.specs.Replay.{report_of, replaying}
use Rattle.sync_program.proofs.replay.run_replay.Goals as goal

-- a text spells one schedule, and is not refused then
pub returns-clause-replays : goal.returns-clause-replays
returns-clause-replays g c = λ schedule tells.
    replays_from_cause (replaying-IsDetermined c.spells_one_schedule.ensures c.refuses_one_line.ensures c.refuses_no_schedule.ensures)
    c.replay.result _ _ schedule c.replay.ensures.cause tells

-- a text is refused at one line, and spells no schedule then
pub returns-clause-refuses : goal.returns-clause-refuses
returns-clause-refuses g c = λ line reason tells.
    refuses_schedule (replaying-IsDetermined c.spells_one_schedule.ensures c.refuses_one_line.ensures c.refuses_no_schedule.ensures)
    c.replay.result _ _ line reason c.replay.ensures.cause tells

-- a text that is too long is refused as such
pub returns-clause-refuses_length : goal.returns-clause-refuses_length
returns-clause-refuses_length g c = λ tells. length_from_cause replaying c.replay.result _ _ c.replay.ensures.cause tells

-- what a schedule gives, where nothing outside failed
pub returns-clause-completes : goal.returns-clause-completes
returns-clause-completes g c = λ schedule tells no_source no_sink.
    completes_from_gives c.replay.result _ _ (report_of schedule)
    (replays_from_cause (replaying-IsDetermined c.spells_one_schedule.ensures c.refuses_one_line.ensures c.refuses_no_schedule.ensures)
    c.replay.result _ _ schedule c.replay.ensures.cause tells)
    no_source no_sink
