-- What a turn makes of a type: the first task that waits is applied.
use Rattle.std.specs.Prelude.{ℕ, max, List, [], ◌∷◌}
use Rattle.sync_values.specs.declared.value.Value.{Value}
use Rattle.sync_model.specs.declared.conflict.Decision.{Decision}
use Rattle.sync_model.specs.declared.message.Task.{Task}
use Rattle.sync_model.specs.declared.message.Task.TheVariants.{Batch as Updating, Acks}
use Rattle.sync_model.specs.Sides.{States, after_updates, after_acks, after_task, task_notes}
use Rattle.type_processor.specs.declared.answers.Turn.{Turn}
use Rattle.type_processor.specs.declared.answers.Turn.TheVariants.{Idle, Turned}
use Rattle.type_processor.specs.Processed.{Processed, side_of, with_side}

-- the states after a task
abbrev pub states_after : (Value → Value → Decision) → States → Task → States
states_after decided states (Updating batch) = after_updates decided states batch.updates
states_after decided states (Acks acks) = after_acks states acks

-- the mark after a task: a batch raises it
abbrev pub mark_after : ℕ → Task → ℕ
mark_after mark (Updating batch) = max mark batch.mark
mark_after mark (Acks acks) = mark

-- what is had of a type after the first of these tasks, of which the others wait on
abbrev pub turned_by : {Rules : Type 0} → (Value → Value → Decision) → Processed Rules → List Task → Processed Rules
turned_by decided processed [] = processed
turned_by decided processed (task ∷ tasks) =
    with_side processed (after_task decided (record (side_of processed) { mailbox = tasks }) task)

-- what is had of a type after a turn
abbrev pub turned : {Rules : Type 0} → (Value → Value → Decision) → Processed Rules → Processed Rules
turned decided processed = turned_by decided processed processed.mailbox

-- what the first of these tasks settles
abbrev pub told_by : (Value → Value → Decision) → States → List Task → Turn
told_by decided states [] = Idle
told_by decided states (task ∷ tasks) = Turned (task_notes decided states task)

-- what is told of a turn
abbrev pub turn_told : {Rules : Type 0} → (Value → Value → Decision) → Processed Rules → Turn
turn_told decided processed = told_by decided processed.states processed.mailbox
