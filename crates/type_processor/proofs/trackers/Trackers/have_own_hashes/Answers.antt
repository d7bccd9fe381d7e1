use Rattle.type_processor.proofs.KeyedEntries.{own_hashes}
use Rattle.type_processor.proofs.trackers.Trackers.have_own_hashes.Goals as goal

pub returns : goal.returns
returns c = rw (← c.self.view_is) (own_hashes c.self.inside.map.entries c.self.invariant c.iter-entries.ensures.found)
