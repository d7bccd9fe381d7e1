use Rattle.std.proofs.Common.{◌≡◌, ℕ, map, take, drop}
use Rattle.std.specs.List.{AllByRecursion}
use Rattle.replay_messages.specs.Forms.{IsPlain}
use Rattle.replay_messages.specs.Messages.{entity_of}
use Rattle.replay_messages.proofs.told.told_entries.Given as goal

abbrev pub invariant-loop-entry : goal.invariant-loop-entry
invariant-loop-entry l = record {
  told : (seed : ℕ) → l.told.items ≡ map (entity_of seed) (take l.entry-index l.entries);
  plain : AllByRecursion IsPlain (drop l.entry-index l.entries);
}
