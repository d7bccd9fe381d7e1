-- Counts of the faults of the outside.
use Rattle.std.specs.Prelude.{ℕ, ◌+◌, ◌-◌, ◌^◌, ◌<◌, ◌≤◌, ◌⊎◌, Bool, cond, min}

-- the last value of a count, where it stays
abbrev pub last_count : ℕ
last_count = 2 ^ 64 - 1

-- a fault was counted in between; a count at its last value is taken as having risen
abbrev pub Rose : ℕ → ℕ → Type 0
Rose before now = (before < now) ⊎ (last_count ≤ before)

-- no count was lost in between
abbrev pub NeverFalls : ℕ → ℕ → Type 0
NeverFalls before now = before ≤ now

-- a count with one more; at its last value it stays
abbrev pub counted : ℕ → ℕ
counted count = min (count + 1) last_count

-- a count with one more where this is so
abbrev pub counted_where : Bool → ℕ → ℕ
counted_where is_so count = cond is_so (counted count) count
