-- Entries as they were sent, what they are once they open, and what a type's worker holds.
use Rattle.std.specs.Prelude.{◌≡◌, ◌⊎◌, ℕ, List, [], ◌∷◌, length, Option, Some, None, option_map}
use Rattle.client_tags.specs.declared.Kind.{Kind}
use Rattle.sync_model.specs.declared.message.Task.{Task}
use Rattle.sync_model.specs.declared.message.Task.TheVariants.{Batch as Updating, Acks}
use Rattle.sync_model.specs.declared.message.Update.{Update}
use Rattle.key_bag.specs.Bags.{Bag}
use Rattle.sync_specifics.specs.declared.specifics.Specifics.{Specifics}
use Rattle.type_worker.specs.declared.blocked.Blocked.{Blocked}
use Rattle.type_worker.specs.declared.pending.Pending.{Pending}
use Rattle.type_worker.specs.declared.pending.SentEntry.{SentEntry}
use Rattle.type_worker.specs.Opening.{sealed_in, OpensTo, IsShut}

-- the name that the sealed text of specifics bears, if they have one
abbrev pub lock_of : Specifics → Option (List ℕ)
lock_of specifics = option_map (λ sealed. sealed.key_name) (sealed_in specifics)

-- under a bag, an entry is this update: it opens to its value, and its lock is the name that its sealed text bears
pub record OpensAs (bag : Bag) (entry : SentEntry) (update : Update) : Type 0 where
  pub hash : update.hash ≡ entry.hash
  pub version : update.version ≡ entry.version
  pub value : OpensTo bag entry.specifics update.value
  pub lock : update.lock ≡ lock_of entry.specifics

-- under a bag, entries are these updates, one of each and in their order
abbrev pub AllOpenAs : Bag → List SentEntry → List Update → Type 0
AllOpenAs bag [] [] = Unit {0}
AllOpenAs bag [] (update ∷ updates) = ⊥
AllOpenAs bag (entry ∷ entries) [] = ⊥
AllOpenAs bag (entry ∷ entries) (update ∷ updates) = OpensAs bag entry update × AllOpenAs bag entries updates

-- under a bag each of these entries opens
abbrev pub AllOpen : Bag → List SentEntry → Type 0
AllOpen bag entries = (updates : List Update) × AllOpenAs bag entries updates

-- under a bag an entry does not open, and this is told of it
pub record IsBlocked (bag : Bag) (entry : SentEntry) (blocked : Blocked) : Type 0 where
  pub hash : blocked.hash ≡ entry.hash
  pub shut : IsShut bag entry.specifics blocked.sealed blocked.cause

-- the first of some entries that does not open under a bag is this one: those before it do
abbrev pub IsFirstBlocked : Bag → List SentEntry → Blocked → Type 0
IsFirstBlocked bag [] blocked = ⊥
IsFirstBlocked bag (entry ∷ entries) blocked =
    IsBlocked bag entry blocked ⊎ (((update : Update) × OpensAs bag entry update) × IsFirstBlocked bag entries blocked)

-- the task of a batch whose entries open under a bag, with its mark
abbrev pub IsTaskOf : Bag → List SentEntry → ℕ → Task → Type 0
IsTaskOf bag entries mark (Updating batch) = AllOpenAs bag entries batch.updates × (batch.mark ≡ mark)
IsTaskOf bag entries mark (Acks acks) = ⊥

-- the task of a batch of these updates with this mark
abbrev pub task_of : List Update → ℕ → Task
task_of updates mark = Updating (record { updates = updates; mark = mark })

-- a batch that waits for a key: its entries as they were sent, its mark, and the first entry that did not open at the
-- last try
pub record Waiting : Type 0 where
  pub entries : List SentEntry
  pub mark : ℕ
  pub blocked : Blocked

-- a batch as it is kept
abbrev pub waiting_of : Pending → Waiting
waiting_of pending = record { entries = pending.entries; mark = pending.mark; blocked = pending.blocked }

-- what a type's worker holds: at most one batch
pub record Held : Type 0 where
  pub kind : Kind
  pub pending : Option Waiting

-- a worker that holds nothing
abbrev pub holding_none : Held → Held
holding_none held = record { kind = held.kind; pending = None }

-- a worker holds these entries with this mark, of which this one was the first that did not open
abbrev pub holding : Held → List SentEntry → ℕ → Blocked → Held
holding held entries mark blocked =
    record { kind = held.kind; pending = Some (record { entries = entries; mark = mark; blocked = blocked }) }

-- a batch waits from now on: its first entry that does not open is told
pub record Waits (bag : Bag) (entries : List SentEntry) (mark : ℕ) (before now : Held) : Type 0 where
  pub blocked : Blocked
  pub is_first : IsFirstBlocked bag entries blocked
  pub holds : now ≡ holding before entries mark blocked

-- a batch that was tried again still waits: what is told of it is of this try
pub record IsRetried (bag : Bag) (before now : Pending) : Type 0 where
  pub is_first : IsFirstBlocked bag before.entries now.blocked
  pub entries : now.entries ≡ before.entries
  pub mark : now.mark ≡ before.mark

-- nothing waits, or it still does not open, and what is told of it is of this try
abbrev pub StillWaits : Bag → Option Waiting → Held → Held → Type 0
StillWaits bag None before now = now ≡ before
StillWaits bag (Some waiting) before now = Waits bag waiting.entries waiting.mark before now

-- what waits opens under a bag, as this task
abbrev pub IsMailable : Bag → Option Waiting → Task → Type 0
IsMailable bag None task = ⊥
IsMailable bag (Some waiting) task = IsTaskOf bag waiting.entries waiting.mark task

-- something waits, and all of it opens
abbrev pub OpensNow : Bag → Option Waiting → Type 0
OpensNow bag None = ⊥
OpensNow bag (Some waiting) = AllOpen bag waiting.entries

-- how many entries wait
abbrev pub waiting_count : Option Waiting → ℕ
waiting_count None = 0
waiting_count (Some waiting) = length waiting.entries
