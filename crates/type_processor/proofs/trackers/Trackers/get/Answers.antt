use Rattle.std.proofs.Common.{◌∙◌, ap}
use Rattle.std.specs.Option.{option_map}
use Rattle.type_processor.specs.Keyed.{key_of}
use Rattle.type_processor.proofs.KeyedEntries.{found_tracker}
use Rattle.type_processor.proofs.trackers.Trackers.get.Goals as goal

pub returns : goal.returns
returns c =
    rw (← c.self.view_is) (ap (option_map key_of) c.get.ensures.value ∙ found_tracker c.self.inside.map.entries c.args.hash.now c.self.invariant)
