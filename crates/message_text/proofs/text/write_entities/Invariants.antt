use Rattle.std.proofs.Common.{◌≡◌, ◌++◌, take}
use Rattle.std.specs.List.{flat_map}
use Rattle.message_text.specs.Lines.{entity_line}
use Rattle.message_text.proofs.text.write_entities.Given as goal

abbrev pub invariant-loop-entity : goal.invariant-loop-entity
invariant-loop-entity l = l.out.items ≡ l.fn.out.items ++ flat_map entity_line (take l.entity-index l.entities)
