use Rattle.std.proofs.Common.{◌∙◌, ap}
use Rattle.type_processor.specs.Keyed.{states_of}
use Rattle.type_processor.proofs.KeyedEntries.{keyed_remove, states_remove}
use Rattle.type_processor.proofs.trackers.Trackers.remove.Goals as goal

pub invariant_of-self : goal.invariant_of-self
invariant_of-self c = rw c.remove-removed.ensures.entries (keyed_remove c.self.inside.map.entries c.args.hash.now c.self.invariant)

pub returns : goal.returns
returns c =
    rw (← c.self.view_is) (ap states_of c.remove-removed.ensures.entries ∙ states_remove c.self.inside.map.entries c.args.hash.now)
