use Rattle.std.proofs.Common.{◌≡◌, ◌++◌, length}
use Rattle.std.specs.List.{filter_map}
use Rattle.type_worker.specs.Entries.{entry_of}
use Rattle.type_worker.proofs.entries.entries_of.Given as goal

abbrev pub invariant-entities : goal.invariant-entities
invariant-entities l = l.entries.items ++ filter_map (entry_of l.kind) l.entities.items ≡ filter_map (entry_of l.kind) l.initial.entities.items

abbrev pub decreases-entities : goal.decreases-entities
decreases-entities l = length l.entities.items
