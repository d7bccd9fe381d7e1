-- A server as contracts see it.
use Rattle.std.specs.Prelude.{ℕ, List, Option}
use Rattle.sync_specifics.specs.declared.specifics.Specifics.{Specifics}
use Rattle.sync_model.specs.declared.message.Entry.{Entry}

-- the birthday of a server's store, and its writes, the newest first
pub record Served : Type 0 where
  pub birthday : List ℕ
  pub history : List (Entry (Option Specifics))
