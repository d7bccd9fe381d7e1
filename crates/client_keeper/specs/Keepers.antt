-- What calls of a keeper leave, and why they fail.
use Rattle.std.specs.Prelude.{◌≡◌, ℕ, ◌⊎◌, List, [], Option, Contains}
use Rattle.std.specs.Option.{option_map}
use Rattle.outer_edge.specs.Faults.{Rose, counted}
use Rattle.client_keeper.specs.Rows.{Rows, changed}
use Rattle.client_keeper.specs.declared.change.Entry.{Entry}
use Rattle.client_keeper.specs.declared.keeper.LoadFault.{LoadFault}
use Rattle.client_keeper.specs.declared.keeper.LoadFault.TheVariants as load
use Rattle.client_keeper.specs.declared.keeper.ApplyFault.{ApplyFault}
use Rattle.client_keeper.specs.declared.keeper.ApplyFault.TheVariants as apply

-- told rows after a change; rows that are not told stay untold
abbrev pub told_changed : Option Rows → List Entry → Option Rows
told_changed told entries = option_map (λ rows. changed rows entries) told

-- a fault of loading has its cause: a fault was counted, or memory was wanting and none was
abbrev pub IsCauseOfLoad : LoadFault → ℕ → ℕ → Type 0
IsCauseOfLoad load.Failed before now = Rose before now
IsCauseOfLoad load.NoMemory before now = now ≡ before

-- a fault of a change has its cause: a fault was counted, or memory was wanting and none was
abbrev pub IsCauseOfApply : ApplyFault → ℕ → ℕ → Type 0
IsCauseOfApply apply.Failed before now = Rose before now
IsCauseOfApply apply.NoMemory before now = now ≡ before

-- the rows that a change leaves where it fails: those before it or after it; where memory was wanting, those before it
abbrev pub IsLeftBy : ApplyFault → Option Rows → Option Rows → List Entry → Type 0
IsLeftBy apply.Failed before now entries = (now ≡ before) ⊎ (now ≡ told_changed before entries)
IsLeftBy apply.NoMemory before now entries = now ≡ before

-- a keeper in memory: its rows, how many calls there were, which calls fail, and how many did
pub record KeeperState : Type 0 where
  pub rows : Rows
  pub calls : ℕ
  pub failing : List ℕ
  pub faults : ℕ

-- a keeper in memory before its first call
abbrev pub new_keeper : List ℕ → KeeperState
new_keeper failing = record { rows = []; calls = 0; failing = failing; faults = 0 }

-- the next call of the keeper is one that fails
abbrev pub FailsNext : KeeperState → Type 0
FailsNext s = Contains s.failing (counted s.calls)

-- one more call, which changed no row
abbrev pub after_call : KeeperState → KeeperState
after_call s = record { rows = s.rows; calls = counted s.calls; failing = s.failing; faults = s.faults }

-- one more call, which failed and changed no row
abbrev pub after_fault : KeeperState → KeeperState
after_fault s = record { rows = s.rows; calls = counted s.calls; failing = s.failing; faults = counted s.faults }

-- one more call, which made a change
abbrev pub after_change : List Entry → KeeperState → KeeperState
after_change entries s = record { rows = changed s.rows entries; calls = counted s.calls; failing = s.failing; faults = s.faults }

-- one more call of loading, which ended in this fault
abbrev pub after_load_fault : LoadFault → KeeperState → KeeperState
after_load_fault load.Failed s = after_fault s
after_load_fault load.NoMemory s = after_call s

-- one more call for a change, which ended in this fault
abbrev pub after_apply_fault : ApplyFault → KeeperState → KeeperState
after_apply_fault apply.Failed s = after_fault s
after_apply_fault apply.NoMemory s = after_call s

-- a keeper in memory of these rows, before its first call, none of whose calls fails
abbrev pub keeper_of : Rows → KeeperState
keeper_of rows = record { rows = rows; calls = 0; failing = []; faults = 0 }
