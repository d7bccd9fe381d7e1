-- What contracts see of a queue of slots.
use Rattle.std.specs.Prelude.{ℕ, List}

-- the slots that are queued, in the order of their pushes, and how many slots have room
pub record Queued : Type 0 where
  pub slots : List ℕ
  pub room : ℕ
