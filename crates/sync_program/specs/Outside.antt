-- What a run did to its source and to its sink.
use Rattle.std.specs.Prelude.{◌≡◌, ℕ, ◌+◌, ◌<◌, ◌≤◌, ◌⊎◌, List, length, take, Option, Some, IfSome}
use Rattle.outer_edge.specs.Faults.{Rose}
use Rattle.outer_edge.specs.Source.{Grew, Gave, GaveUpTo, GaveCount, IsAllOf, IsAtEnd}

-- a source before a run and now, with what it tells: the bytes that are left and that came, and its faults
pub record Reading (S : Type 0) : Type 0 where
  pub left : S → Option (List ℕ)
  pub came : S → Option (List ℕ)
  pub faults : S → ℕ
  pub before : S
  pub now : S

-- a sink before a run and now, with what it tells: the bytes that it took, and its faults
pub record Writing (O : Type 0) : Type 0 where
  pub taken : O → Option (List ℕ)
  pub faults : O → ℕ
  pub before : O
  pub now : O

-- how a source was read between two states
abbrev pub reading : {S : Type 0} → (S → Option (List ℕ)) → (S → Option (List ℕ)) → (S → ℕ) → S → S → Reading S
reading left came faults before now = record { left = left; came = came; faults = faults; before = before; now = now }

-- how a sink was written to between two states
abbrev pub writing : {O : Type 0} → (O → Option (List ℕ)) → (O → ℕ) → O → O → Writing O
writing taken faults before now = record { taken = taken; faults = faults; before = before; now = now }

-- the source failed
abbrev pub SourceFailed : {S : Type 0} → Reading S → Type 0
SourceFailed r = Rose (r.faults r.before) (r.faults r.now)

-- the sink failed
abbrev pub SinkFailed : {O : Type 0} → Writing O → Type 0
SinkFailed w = Rose (w.faults w.before) (w.faults w.now)

-- the source was read to its end without a fault; what it gave is this text, and was all that it had left
pub record GaveText {S : Type 0} (r : Reading S) (text : List ℕ) : Type 0 where
  pub gave : Gave r.left r.came r.before r.now text
  pub is_all : IsAllOf (r.left r.before) text
  pub ended : IsAtEnd (r.left r.now)
  pub no_fault : r.faults r.now ≡ r.faults r.before

-- the source gave at most so many bytes, and did not fail
pub record GaveWithin {S : Type 0} (r : Reading S) (limit : ℕ) : Type 0 where
  pub gave : GaveUpTo r.left r.came r.before r.now limit
  pub no_fault : r.faults r.now ≡ r.faults r.before

-- the source gave an input of at most so many bytes, and this holds of it
pub record GaveInput {S : Type 0} (r : Reading S) (limit : ℕ) (Holds : List ℕ → Type 0) : Type 0 where
  pub input : List ℕ
  pub gave : GaveText r input
  pub within : length input ≤ limit
  pub holds : Holds input

-- the source gave one byte more than so many, and had at least as many, where it tells
pub record GaveTooMuch {S : Type 0} (r : Reading S) (limit : ℕ) : Type 0 where
  pub gave : GaveCount r.left r.came r.before r.now (limit + 1)
  pub was_longer : IfSome (r.left r.before) (λ all. limit < length all)

-- the source tells that it has an input left of at most so many bytes, and this holds of it
pub record TellsInput (left : Option (List ℕ)) (limit : ℕ) (Holds : List ℕ → Type 0) : Type 0 where
  pub input : List ℕ
  pub told : left ≡ Some input
  pub within : length input ≤ limit
  pub holds : Holds input

-- the source tells that it has more left than so many bytes
pub record TellsTooMuch (left : Option (List ℕ)) (limit : ℕ) : Type 0 where
  pub input : List ℕ
  pub told : left ≡ Some input
  pub is_longer : limit < length input

-- the sink took a text, and nothing else
abbrev pub Wrote : {O : Type 0} → Writing O → List ℕ → Type 0
Wrote w text = Grew (w.taken w.before) (w.taken w.now) text

-- the sink failed when it had taken so many bytes of a text, and not all of them
pub record IsCutShort {O : Type 0} (w : Writing O) (text : List ℕ) : Type 0 where
  pub failed : SinkFailed w
  pub count : ℕ
  pub wrote_front : Wrote w (take count text)
  pub not_all : count < length text

-- the sink took a text, or failed before it had all of it
abbrev pub Printed : {O : Type 0} → Writing O → List ℕ → Type 0
Printed w text = Wrote w text ⊎ IsCutShort w text
