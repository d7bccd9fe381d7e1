-- How much a schedule and a script may hold.
use Rattle.std.specs.Prelude.{ℕ}

-- how many clients there may be
abbrev pub MAX_CLIENTS : ℕ
MAX_CLIENTS = 8

-- how many passphrases there may be
abbrev pub MAX_PASSES : ℕ
MAX_PASSES = 64

-- how many events there may be, which is also the greatest number that names one
abbrev pub MAX_EVENTS : ℕ
MAX_EVENTS = 20000

-- how many lines a script may have
abbrev pub MAX_SCRIPT_LINES : ℕ
MAX_SCRIPT_LINES = 10000

-- the greatest seed
abbrev pub MAX_SEED : ℕ
MAX_SEED = 18446744073709551615

-- the greatest date
abbrev pub MAX_DATE : ℕ
MAX_DATE = 9223372036854775807
