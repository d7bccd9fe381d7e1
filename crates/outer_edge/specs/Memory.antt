-- The sources and sinks in memory, whose calls fail where they were told to.
use Rattle.std.specs.Prelude.{ℕ, ◌<◌, ◌≤◌, ◌⊎◌, List, [], ◌++◌, length, take, drop, Contains}
use Rattle.outer_edge.specs.Faults.{counted}

-- a source: the bytes that came and are left, how many calls there were, which calls fail, and how many did
pub record SourceState : Type 0 where
  pub came : List ℕ
  pub left : List ℕ
  pub calls : ℕ
  pub failing : List ℕ
  pub faults : ℕ

-- a source before its first call
abbrev pub new_source : List ℕ → List ℕ → SourceState
new_source bytes failing = record { came = []; left = bytes; calls = 0; failing = failing; faults = 0 }

-- the next call of the source is one that fails
abbrev pub FailsNext : SourceState → Type 0
FailsNext s = Contains s.failing (counted s.calls)

-- a call gave this many bytes
abbrev pub after_giving : ℕ → SourceState → SourceState
after_giving count s = record {
  came = s.came ++ take count s.left;
  left = drop count s.left;
  calls = counted s.calls;
  failing = s.failing;
  faults = s.faults;
}

-- a call failed, and gave nothing
abbrev pub after_fault : SourceState → SourceState
after_fault s = record {
  came = s.came;
  left = s.left;
  calls = counted s.calls;
  failing = s.failing;
  faults = counted s.faults;
}

-- a sink: the bytes that it took, how many it has room for, how many calls there were, which fail, and how many did
pub record SinkState : Type 0 where
  pub taken : List ℕ
  pub room : ℕ
  pub calls : ℕ
  pub failing : List ℕ
  pub faults : ℕ

-- a sink before its first call
abbrev pub new_sink : ℕ → List ℕ → SinkState
new_sink room failing = record { taken = []; room = room; calls = 0; failing = failing; faults = 0 }

-- the sink takes nothing of this piece: the call is one that fails, or no room is left for a byte
abbrev pub Refuses : SinkState → List ℕ → Type 0
Refuses s piece = Contains s.failing (counted s.calls) ⊎ ((s.room ≤ length s.taken) × (0 < length piece))

-- a call took this piece
abbrev pub after_taking : List ℕ → SinkState → SinkState
after_taking piece s = record {
  taken = s.taken ++ piece;
  room = s.room;
  calls = counted s.calls;
  failing = s.failing;
  faults = s.faults;
}

-- a call failed, and took nothing
abbrev pub after_refusal : SinkState → SinkState
after_refusal s = record {
  taken = s.taken;
  room = s.room;
  calls = counted s.calls;
  failing = s.failing;
  faults = counted s.faults;
}

-- a link: a source and a sink, whose calls are counted together
pub record LinkState : Type 0 where
  pub source : SourceState
  pub sink : SinkState

-- a link before its first call
abbrev pub new_link : List ℕ → ℕ → List ℕ → LinkState
new_link bytes room failing = record { source = new_source bytes failing; sink = new_sink room failing }

-- a call of the source made this of it; the sink counts the call
abbrev pub after_reading : SourceState → LinkState → LinkState
after_reading source link = record { source = source; sink = record link.sink { calls = counted link.sink.calls } }

-- a call of the sink made this of it; the source counts the call
abbrev pub after_writing : SinkState → LinkState → LinkState
after_writing sink link = record { source = record link.source { calls = counted link.source.calls }; sink = sink }
