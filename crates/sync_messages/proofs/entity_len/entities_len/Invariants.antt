use Rattle.std.proofs.Common.{take}
use Rattle.sync_messages.specs.Lengths.{IsLength}
use Rattle.sync_messages.specs.Spellings.{entities_bytes}
use Rattle.sync_messages.proofs.entity_len.entities_len.Given as goal

abbrev pub invariant-loop-entity : goal.invariant-loop-entity
invariant-loop-entity l = IsLength l.total (entities_bytes l.number (take l.entity-index l.entities))
