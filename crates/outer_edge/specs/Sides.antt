-- The two sides of what both gives bytes and takes them.
use Rattle.std.specs.Prelude.{ℕ, List, Option, None}

-- what a sink says: the bytes that it took, where it tells, and its faults
pub record SinkSide : Type 0 where
  pub taken : Option (List ℕ)
  pub faults : ℕ

-- what a source says: the bytes still to come and those that came, where it tells, and its faults
pub record SourceSide : Type 0 where
  pub left : Option (List ℕ)
  pub came : Option (List ℕ)
  pub faults : ℕ

-- what is no sink tells nothing as one, and never fails
abbrev pub no_sink : SinkSide
no_sink = record { taken = None; faults = 0 }

-- what is no source tells nothing as one, and never fails
abbrev pub no_source : SourceSide
no_source = record { left = None; came = None; faults = 0 }
