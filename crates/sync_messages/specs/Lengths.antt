-- How long what is written is, as a number of 64 bits says it.
use Rattle.std.specs.Prelude.{◌≡◌, ℕ, List, length}
use Rattle.std.specs.Io.Iter.{u64_saturate}

-- this number says how long some bytes are: it is their number, or the greatest of 64 bits where they are more
abbrev pub IsLength : ℕ → List ℕ → Type 0
IsLength number bytes = number ≡ u64_saturate (length bytes)
