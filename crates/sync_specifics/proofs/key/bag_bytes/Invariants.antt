use Rattle.std.proofs.Common.{◌≡◌, ◌++◌, drop}
use Rattle.sync_specifics.specs.Keys.{keys_bytes}
use Rattle.sync_specifics.proofs.key.bag_bytes.Given as goal

abbrev pub invariant-loop-place : goal.invariant-loop-place
invariant-loop-place l = l.writer ++ keys_bytes (drop l.place l.names) (drop l.place l.keys) ≡ keys_bytes l.fn.names l.fn.keys
