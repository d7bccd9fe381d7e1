use Rattle.std.proofs.Common.{◌≡◌, take, None}
use Rattle.std.specs.Map.{lookup}
use Rattle.client_keeper.specs.Names.{stores_of}
use Rattle.client_keeper.specs.Stores.{is_named}
use Rattle.client_keeper.proofs.memory_place.find_store.Given as goal

-- none of the stores so far has the name
abbrev pub invariant-loop-index : goal.invariant-loop-index
invariant-loop-index l = lookup (is_named l.name) (take l.index (stores_of l.stores)) ≡ None
