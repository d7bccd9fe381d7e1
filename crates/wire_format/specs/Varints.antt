-- Varints: numbers as groups of seven bits (Protocol Buffers, Encoding, Base 128 Varints).
use Rattle.std.specs.Prelude.{◌≡◌, ℕ, ◌+◌, ◌*◌, ◌%◌, ◌<◌, ◌≤◌, List, [], ◌∷◌, ◌++◌, length}
use Rattle.std.specs.List.{AllByRecursion}
use Rattle.wire_format.specs.declared.varint.VarintFault.{VarintFault}
use Rattle.wire_format.specs.declared.varint.VarintFault.TheVariants.{Cut, Long}

-- the number that groups of seven bits make, the lowest group first
unfoldable pub groups_value : List ℕ → ℕ
groups_value [] = 0
groups_value (byte ∷ bytes) = byte % 128 + 128 * groups_value bytes

-- the top bit of each of these bytes is set: another byte follows
abbrev pub GoOn : List ℕ → Type 0
GoOn bytes = AllByRecursion (λ byte. 128 ≤ byte) bytes

-- these bytes are a varint of this number, of at most ten bytes; a longer spelling than the least will do
pub record IsVarint (bytes : List ℕ) (value : ℕ) : Type 0 where
  pub front : List ℕ
  pub last : ℕ
  pub is_whole : bytes ≡ front ++ last ∷ []
  pub goes_on : GoOn front
  pub ends : last < 128
  pub is_short : length front ≤ 9
  pub tenth : length front ≡ 9 → last ≤ 1
  pub is_value : value ≡ groups_value bytes

-- these bytes end inside a varint
pub record IsCutVarint (bytes : List ℕ) : Type 0 where
  pub goes_on : GoOn bytes
  pub is_short : length bytes ≤ 9

-- a varint begins here whose tenth byte is above 1
pub record IsLongVarint (bytes : List ℕ) : Type 0 where
  pub front : List ℕ
  pub tenth : ℕ
  pub after : List ℕ
  pub is_whole : bytes ≡ front ++ tenth ∷ after
  pub goes_on : GoOn front
  pub is_ninth : length front ≡ 9
  pub is_above : 1 < tenth

-- why no varint stands at the front of some bytes
abbrev pub IsVarintFault : List ℕ → VarintFault → Type 0
IsVarintFault bytes Cut = IsCutVarint bytes
IsVarintFault bytes Long = IsLongVarint bytes
