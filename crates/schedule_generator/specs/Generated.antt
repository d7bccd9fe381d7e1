-- The schedule of a number of clients, a number of steps and a seed.
use Rattle.std.specs.Prelude.{ℕ, zero, suc, ◌+◌, List, [], ◌∷◌, ◌++◌, length, codes}
use Rattle.rand_chacha.specs.ChaCha.{ChaCha}
use Rattle.sync_model.specs.declared.event.Event.{Event}
use Rattle.sync_model.specs.declared.event.Schedule.{Schedule}
use Rattle.schedule_generator.specs.Draws.{draws_of}
use Rattle.schedule_generator.specs.Steps.{step}

-- the events of so many steps, of which the first has this number
unfoldable pub steps_from : ℕ → ℕ → ℕ → ChaCha → List Event
steps_from clients zero first draws = []
steps_from clients (suc count) first draws =
    let drawn = step clients first draws in
    drawn.events ++ steps_from clients count (first + length drawn.events) drawn.rest

-- the passphrases of every generated schedule
unfoldable pub generated_passes : List (List ℕ)
generated_passes = codes "first" ∷ codes "second" ∷ []

-- a schedule by its numbers: clients, steps, seed
unfoldable pub generated : ℕ → ℕ → ℕ → Schedule
generated clients steps seed = record {
  clients = clients;
  seed = seed;
  passes = generated_passes;
  events = steps_from clients steps 1 (draws_of seed);
}
