-- A source that never fails, as its callers see it.
use Rattle.std.specs.Prelude.{ℕ, List, ◌++◌, take, drop}

-- the bytes that came, and those that are left
pub record SureBytes : Type 0 where
  pub came : List ℕ
  pub left : List ℕ

-- this many more bytes came
abbrev pub after_giving : ℕ → SureBytes → SureBytes
after_giving count s = record { came = s.came ++ take count s.left; left = drop count s.left }
