-- The server's history: the entries that it has stored, the newest first. The version of a write is the
-- length of the history up to it. What an entry carries beside its key and its version is left open, and
-- with it which entries are invalid: so the same words serve for entities as sent and for plain values.
use Rattle.std.specs.Prelude.{◌≡◌, ℕ, ◌+◌, ◌-◌, ◌^◌, Bool, ◌==◌, ◌&&◌, ◌||◌, nat_le, if◌then◌else◌, List, [], ◌∷◌, length, Option, Some, None}
use Rattle.sync_model.specs.declared.message.Key.{Key}
use Rattle.sync_model.specs.declared.message.Entry.{Entry}
use Rattle.sync_model.specs.declared.message.Answer.{Answer}
use Rattle.sync_model.specs.declared.message.Answer.TheVariants.{Success, Conflict, Invalid, OverQuota}
use Rattle.sync_model.specs.Values.{same_key}

-- the version of a key's last write, or 0 where it has none
abbrev pub last_version : {C : Type 0} → List (Entry C) → Key → ℕ
last_version [] key = 0
last_version (write ∷ older) key = if same_key write.key key then length older + 1 else last_version older key

-- a key's last write, if it has one
abbrev pub last_write : {C : Type 0} → List (Entry C) → Key → Option (Entry C)
last_write [] key = None
last_write (write ∷ older) key = if same_key write.key key then Some write else last_write older key

-- the write of a version, if there is one
abbrev pub write_at : {C : Type 0} → List (Entry C) → ℕ → Option (Entry C)
write_at [] version = None
write_at (write ∷ older) version = if version == length older + 1 then Some write else write_at older version

-- how many keys have a write
abbrev pub key_count : {C : Type 0} → List (Entry C) → ℕ
key_count [] = 0
key_count (write ∷ older) = if last_version older write.key == 0 then key_count older + 1 else key_count older

-- how many keys a server has room for
abbrev pub MAX_KEYS : ℕ
MAX_KEYS = 100000

-- the last version that there is
abbrev pub LAST_VERSION : ℕ
LAST_VERSION = 2 ^ 63 - 1

-- there is no room for the entry: it needs a new key, or a version past the last
abbrev pub is_over_quota : {C : Type 0} → List (Entry C) → Entry C → Bool
is_over_quota history entry =
    (entry.version == 0 && nat_le MAX_KEYS (key_count history)) || nat_le LAST_VERSION (length history)

-- the answer to an entry: one that is not invalid is stored where its version is that of its key's last write
unfoldable pub answer_to : {C : Type 0} → (Entry C → Bool) → List (Entry C) → Entry C → Answer
answer_to is_invalid history entry =
    if is_invalid entry then Invalid
    else (if entry.version == last_version history entry.key
    then (if is_over_quota history entry then OverQuota else Success (length history + 1))
    else Conflict)

-- the history after an entry was answered
abbrev pub history_with : {C : Type 0} → List (Entry C) → Entry C → Answer → List (Entry C)
history_with history entry (Success version) = entry ∷ history
history_with history entry Conflict = history
history_with history entry Invalid = history
history_with history entry OverQuota = history

-- the history after a commit: its entries are taken one after another
unfoldable pub committed : {C : Type 0} → (Entry C → Bool) → List (Entry C) → List (Entry C) → List (Entry C)
committed is_invalid history [] = history
committed is_invalid history (entry ∷ entries) =
    committed is_invalid (history_with history entry (answer_to is_invalid history entry)) entries

-- the answers to a commit, one to each entry
unfoldable pub answers_to : {C : Type 0} → (Entry C → Bool) → List (Entry C) → List (Entry C) → List Answer
answers_to is_invalid history [] = []
answers_to is_invalid history (entry ∷ entries) =
    answer_to is_invalid history entry
    ∷ answers_to is_invalid (history_with history entry (answer_to is_invalid history entry)) entries

-- each write is based on the last write of its key before it
abbrev pub IsBased : {C : Type 0} → List (Entry C) → Type 0
IsBased [] = Unit {0}
IsBased (write ∷ older) = (write.version ≡ last_version older write.key) × IsBased older
