-- What is read of the entities of a commit before any is stored.
use Rattle.std.specs.Prelude.{◌≡◌, ℕ, List, Option, Some, None}
use Rattle.std.specs.List.{AllByRecursion}
use Rattle.sync_specifics.specs.declared.specifics.Specifics.{Specifics}
use Rattle.sync_model.specs.declared.message.Entry.{Entry}
use Rattle.loopback_server.specs.declared.candidate.Candidate.{Candidate}
use Rattle.loopback_server.specs.declared.write.EntityKey.{EntityKey}
use Rattle.replay_messages.specs.Entries.{no_entry}
use Rattle.loopback_server.specs.Indexes.{key_of, HasPlace}
use Rattle.replay_messages.specs.Replies.{id_of}
use Rattle.loopback_server.specs.Stores.{entry_of}

-- what was read of an entity as an entry
abbrev pub entry_read : Option Candidate → Entry (Option Specifics)
entry_read None = no_entry
entry_read (Some candidate) = entry_of candidate.write

-- a write that was read has the name of its key beside it
abbrev pub HasId : Option Candidate → Type 0
HasId None = Unit {0}
HasId (Some candidate) = candidate.id ≡ id_of (key_of candidate.write.key)

-- the index has a place for the key of a write that was read
abbrev pub HasItsPlace : List (EntityKey × ℕ) → Option Candidate → Type 0
HasItsPlace index None = Unit {0}
HasItsPlace index (Some candidate) = HasPlace index candidate.write.key

-- the index has a place for each key
abbrev pub HavePlaces : List (EntityKey × ℕ) → List (Option Candidate) → Type 0
HavePlaces index candidates = AllByRecursion (HasItsPlace index) candidates

-- each has its name
abbrev pub HaveIds : List (Option Candidate) → Type 0
HaveIds candidates = AllByRecursion HasId candidates
