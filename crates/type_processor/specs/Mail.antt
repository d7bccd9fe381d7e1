-- How much the next turn has to do.
use Rattle.std.specs.Prelude.{ℕ, List, [], ◌∷◌, length}
use Rattle.sync_model.specs.declared.message.Task.{Task}
use Rattle.sync_model.specs.declared.message.Task.TheVariants.{Batch as Updating, Acks}

-- how many entries a task has
abbrev pub task_size : Task → ℕ
task_size (Updating batch) = length batch.updates
task_size (Acks acks) = length acks

-- how many entries the first of these tasks has
abbrev pub next_size : List Task → ℕ
next_size [] = 0
next_size (task ∷ tasks) = task_size task
