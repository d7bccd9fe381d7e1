use Rattle.std.proofs.Common.{◌≡◌, length, drop}
use Rattle.run_setting.specs.Hashed.{hashed}
use Rattle.sync_model.specs.Worlds.{run, world_of}
use Rattle.sync_program.proofs.replay.world.Given as goal

-- what is ahead makes the schedule's world of this one, and the world counts the events so far and has the schedule's clients
abbrev pub invariant-loop-event : goal.invariant-loop-event
invariant-loop-event l = record {
  items : l.event-items ≡ l.schedule.events;
  ahead : run hashed l.world (drop l.event-index l.schedule.events) ≡ world_of hashed l.schedule;
  counted : length l.world.outcomes ≡ l.event-index;
  clients : length l.world.clients ≡ l.schedule.clients;
}
