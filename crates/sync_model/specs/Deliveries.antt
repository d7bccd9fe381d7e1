-- What every event keeps of the server's answers: each entry that a delivery says it stored is in the history.
use Rattle.std.specs.Prelude.{◌≡◌, ℕ, List, Some}
use Rattle.std.specs.List.{slice_get}
use Rattle.sync_model.specs.declared.event.EventOutcome.{EventOutcome}
use Rattle.sync_model.specs.declared.message.Content.{Content}
use Rattle.sync_model.specs.declared.message.Entry.{Entry}
use Rattle.sync_model.specs.History.{write_at, IsBased}
use Rattle.sync_model.specs.Outcomes.{entries_sent}
use Rattle.sync_model.specs.Laws.{Stores}
use Rattle.sync_model.specs.Worlds.{World, outcome_at}

-- the entry at a place of the request of an event is the write of a version
pub record IsStored (history : List (Entry Content)) (outcomes : List EventOutcome) (request place version : ℕ) : Type 0 where
  pub entry : Entry Content
  pub is_sent : slice_get (entries_sent (outcome_at outcomes request)) place ≡ Some entry
  pub is_write : write_at history version ≡ Some entry

-- what a delivery says it stored is in the history, at the version that it says
abbrev pub SaysTrue : List (Entry Content) → List EventOutcome → Type 0
SaysTrue history outcomes = (delivery request place version : ℕ)
    → Stores (outcome_at outcomes delivery) request place version → IsStored history outcomes request place version

-- each write is based on its key's last write before it, and what deliveries say of the writes is so
pub record DeliveriesAreTrue (world : World) : Type 0 where
  pub based : IsBased world.history
  pub says_true : SaysTrue world.history world.outcomes
