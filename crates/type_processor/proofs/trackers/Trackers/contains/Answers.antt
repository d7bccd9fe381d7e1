use Rattle.std.proofs.Common.{◌∙◌}
use Rattle.type_processor.proofs.KeyedEntries.{found_some}
use Rattle.type_processor.proofs.trackers.Trackers.contains.Goals as goal

pub returns : goal.returns
returns c =
    rw (← c.self.view_is) (c.contains_key.ensures ∙ found_some c.self.inside.map.entries c.args.hash.now c.self.invariant)
