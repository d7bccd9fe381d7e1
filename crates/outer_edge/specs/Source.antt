-- What a source gives, and how reading it to its end can end.
use Rattle.std.specs.Prelude.{◌≡◌, ℕ, ◌≤◌, List, [], ◌++◌, length, Option, Some, None, IfSome}
use Rattle.outer_edge.specs.Faults.{Rose}
use Rattle.outer_edge.specs.declared.source.ReadEnd.{ReadEnd}
use Rattle.outer_edge.specs.declared.source.ReadEnd.TheVariants.{ReadFault, TooBig, NoMemory}

-- told bytes with a piece more at their end; bytes that are not told stay untold
abbrev pub grown : Option (List ℕ) → List ℕ → Option (List ℕ)
grown None piece = None
grown (Some bytes) piece = Some (bytes ++ piece)

-- told bytes with a piece more before them; bytes that are not told stay untold
abbrev pub preceded : List ℕ → Option (List ℕ) → Option (List ℕ)
preceded piece None = None
preceded piece (Some bytes) = Some (piece ++ bytes)

-- what was told before, with the piece at its end, is what is told now
abbrev pub Grew : Option (List ℕ) → Option (List ℕ) → List ℕ → Type 0
Grew before now piece = now ≡ grown before piece

-- the piece stood at the front of what was left before, and the rest of it is left now
abbrev pub GivesFront : Option (List ℕ) → Option (List ℕ) → List ℕ → Type 0
GivesFront before now piece = before ≡ preceded piece now

-- the piece was given: it stood at the front of what was left, and is now at the end of what came
pub record Gave {S : Type 0} (left came : S → Option (List ℕ)) (before now : S) (piece : List ℕ) : Type 0 where
  pub front : GivesFront (left before) (left now) piece
  pub came_grew : Grew (came before) (came now) piece

-- some piece of at most this length was given
pub record GaveUpTo {S : Type 0} (left came : S → Option (List ℕ)) (before now : S) (most : ℕ) : Type 0 where
  pub piece : List ℕ
  pub gave : Gave left came before now piece
  pub at_most : length piece ≤ most

-- some piece of just this length was given
pub record GaveCount {S : Type 0} (left came : S → Option (List ℕ)) (before now : S) (count : ℕ) : Type 0 where
  pub piece : List ℕ
  pub gave : Gave left came before now piece
  pub just : length piece ≡ count

-- a piece of just this length was given, and put at the end of the bytes
pub record GaveOnto {S : Type 0} (left came : S → Option (List ℕ)) (before now : S) (old new : List ℕ) (count : ℕ) : Type 0 where
  pub piece : List ℕ
  pub gave : Gave left came before now piece
  pub appended : new ≡ old ++ piece
  pub just : length piece ≡ count

-- nothing is left, where that is told
abbrev pub IsAtEnd : Option (List ℕ) → Type 0
IsAtEnd told = IfSome told (λ bytes. bytes ≡ [])

-- these bytes are all that is told, where it is told
abbrev pub IsAllOf : Option (List ℕ) → List ℕ → Type 0
IsAllOf told bytes = IfSome told (λ all. bytes ≡ all)

-- a reading ended so because of its cause: a fault was counted, and otherwise none was
abbrev pub HasCause : ReadEnd → ℕ → ℕ → Type 0
HasCause ReadFault before now = Rose before now
HasCause (TooBig count) before now = now ≡ before
HasCause NoMemory before now = now ≡ before

-- where the reading ended at too many bytes, this holds of their count
abbrev pub IfTooBig : ReadEnd → (ℕ → Type 0) → Type 0
IfTooBig ReadFault P = Unit {0}
IfTooBig (TooBig count) P = P count
IfTooBig NoMemory P = Unit {0}

-- where the reading ended at want of memory, this holds
abbrev pub IfNoMemory : ReadEnd → Type 0 → Type 0
IfNoMemory ReadFault P = Unit {0}
IfNoMemory (TooBig count) P = Unit {0}
IfNoMemory NoMemory P = P
