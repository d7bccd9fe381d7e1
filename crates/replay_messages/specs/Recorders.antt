-- What a record has taken in. A hasher keeps no bytes, so that they are told by a relation.
use Rattle.std.specs.Prelude.{ℕ, List}
use Rattle.sha2.specs.Hashers.{Holds256}
use Rattle.replay_messages.specs.declared.wire_record.Record.{Record}

-- these bytes were recorded so far
abbrev pub HasRecorded : Record → List ℕ → Type 0
HasRecorded recorder bytes = Holds256 recorder.hasher bytes
