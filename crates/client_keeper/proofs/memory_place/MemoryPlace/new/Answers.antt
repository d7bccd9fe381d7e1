use Rattle.client_keeper.proofs.StoreLemmas.{no_names}
use Rattle.client_keeper.proofs.memory_place.MemoryPlace.new.Goals as goal

pub invariant_of-result : goal.invariant_of-result
invariant_of-result c = no_names c.new.result.items c.new.ensures.items
