-- The draws of a client that seals nothing.
use Rattle.std.specs.Prelude.{None}
use Rattle.sync_model.specs.Sending.{Draws}

-- nothing is drawn under any key
abbrev pub no_draws : Draws
no_draws name drawn = None
