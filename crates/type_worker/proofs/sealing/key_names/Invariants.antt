use Rattle.std.proofs.Common.{◌≡◌, map, take}
use Rattle.nigori.specs.Sealing.{key_name}
use Rattle.type_worker.proofs.sealing.key_names.Given as goal

abbrev pub invariant-loop-key : goal.invariant-loop-key
invariant-loop-key l = l.names.items ≡ map key_name (take l.key-index l.keys)
