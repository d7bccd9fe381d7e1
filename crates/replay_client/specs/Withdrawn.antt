-- What a client is whose request was not made after all.
use Rattle.std.specs.Prelude.{None}
use Rattle.sync_model.specs.declared.message.Call.{Call}
use Rattle.sync_model.specs.declared.message.Call.TheVariants as calls
use Rattle.sync_model.specs.declared.message.Content.{Content}
use Rattle.sync_model.specs.Clients.{Client}

-- a client that waits for nothing, and that holds the entries of a commit again
abbrev pub withdrawn : Client → Call Content → Client
withdrawn client (calls.Commit entries) = record client { held = entries; outstanding = None }
withdrawn client (calls.Updates marks) = record client { outstanding = None }
