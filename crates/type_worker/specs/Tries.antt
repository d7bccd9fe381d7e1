-- What a try to open entries answers.
use Rattle.std.specs.Prelude.{◌≡◌, List, Some, Result, Ok, Err}
use Rattle.key_bag.specs.Bags.{Bag}
use Rattle.sync_model.specs.declared.message.Update.{Update}
use Rattle.sync_values.specs.declared.value.Value.{Value}
use Rattle.type_worker.specs.declared.batch.BatchFault.{BatchFault}
use Rattle.type_worker.specs.declared.batch.BatchFault.TheVariants.{Blocked as Stopped, NoMemory}
use Rattle.type_worker.specs.declared.blocked.BlockCause.{BlockCause}
use Rattle.type_worker.specs.declared.blocked.Blocked.{Blocked}
use Rattle.type_worker.specs.declared.pending.SentEntry.{SentEntry}
use Rattle.type_worker.specs.Opening.{sealed_in}
use Rattle.type_worker.specs.Batches.{lock_of, OpensAs, AllOpenAs, AllOpen, IsBlocked, IsFirstBlocked}

-- an entry as an update of this value
abbrev pub update_of : SentEntry → Value → Update
update_of entry value =
    record { hash = entry.hash; version = entry.version; value = value; lock = lock_of entry.specifics }

-- this is told of an entry that does not open for a cause
pub record IsTold (entry : SentEntry) (cause : BlockCause) (blocked : Blocked) : Type 0 where
  pub hash : blocked.hash ≡ entry.hash
  pub sealed : sealed_in entry.specifics ≡ Some blocked.sealed
  pub is_cause : blocked.cause ≡ cause

-- under a bag an entry does not open, this is told of it, and it is no update
pub record IsBlockedAlone (bag : Bag) (entry : SentEntry) (blocked : Blocked) : Type 0 where
  pub is_blocked : IsBlocked bag entry blocked
  pub is_no_update : (update : Update) → ¬ OpensAs bag entry update

-- what a try to open an entry under a bag answers: its update, or what is told of it, but for want of memory
abbrev pub IsEntryTry : Bag → SentEntry → Result Update BatchFault → Type 0
IsEntryTry bag entry (Ok update) = OpensAs bag entry update
IsEntryTry bag entry (Err (Stopped blocked)) = IsBlockedAlone bag entry blocked
IsEntryTry bag entry (Err NoMemory) = Unit {0}

-- under a bag some entries do not all open, and this is told of the first that does not
pub record IsStopped (bag : Bag) (entries : List SentEntry) (blocked : Blocked) : Type 0 where
  pub is_first : IsFirstBlocked bag entries blocked
  pub not_all : ¬ AllOpen bag entries

-- what a try to open some entries under a bag answers: their updates, or what is told of the first that does not open,
-- but for want of memory
abbrev pub IsBatchTry : Bag → List SentEntry → Result (List Update) BatchFault → Type 0
IsBatchTry bag entries (Ok updates) = AllOpenAs bag entries updates
IsBatchTry bag entries (Err (Stopped blocked)) = IsStopped bag entries blocked
IsBatchTry bag entries (Err NoMemory) = Unit {0}
