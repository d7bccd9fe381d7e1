use Rattle.std.proofs.Common.{◌≡◌, ◌++◌, drop}
use Rattle.sync_messages.specs.Spellings.{entities_bytes}
use Rattle.sync_messages.proofs.write_entity.write_entities.Given as goal

abbrev pub invariant-loop-entity : goal.invariant-loop-entity
invariant-loop-entity l =
    l.writer ++ entities_bytes l.number (drop l.entity-index l.entities) ≡ l.fn.writer ++ entities_bytes l.fn.number l.fn.entities
