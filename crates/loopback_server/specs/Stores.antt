-- What the server's store stands for.
use Rattle.std.specs.Prelude.{◌≡◌, List, map, reverse, Option, Some}
use Rattle.sync_specifics.specs.declared.specifics.Specifics.{Specifics}
use Rattle.sync_model.specs.declared.message.Entry.{Entry}
use Rattle.sync_model.specs.History.{key_count}
use Rattle.loopback_server.specs.Indexes.{key_of, HasVersions}
use Rattle.loopback_server.specs.declared.write.Write.{Write}
use Rattle.loopback_server.specs.declared.store.Store.{Store}

-- a write as an entry
abbrev pub entry_of : Write → Entry (Option Specifics)
entry_of write = record { key = key_of write.key; version = write.base; content = Some write.specifics }

-- a history, the newest first, of writes that stand with the oldest first
abbrev pub history_in : List Write → List (Entry (Option Specifics))
history_in writes = map entry_of (reverse writes)

-- the history of a store
abbrev pub history_of : Store → List (Entry (Option Specifics))
history_of store = history_in store.writes.items

-- the index has the versions of all keys, and the count is that of the keys
pub record IsIndexed (store : Store) : Type 0 where
  pub versions : HasVersions store.index.entries (history_of store)
  pub keys : store.keys ≡ key_count (history_of store)
