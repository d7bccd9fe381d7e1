use Rattle.std.proofs.Common.{◌≡◌, ◌++◌, length}
use Rattle.std.specs.List.{AllByRecursion}
use Rattle.sync_messages.specs.Laws.{HaveCanonicalExtras}
use Rattle.replay_client.specs.Mail.{IsPlainUpdate}
use Rattle.replay_client.specs.Readings.{updates_read}
use Rattle.replay_client.proofs.updates.updates_of.Given as goal

abbrev pub invariant-entities : goal.invariant-entities
invariant-entities l = record {
  canonical : HaveCanonicalExtras l.entities;
  plain : AllByRecursion IsPlainUpdate l.updates;
  read : l.updates ++ updates_read l.entities ≡ updates_read l.initial.entities;
}

abbrev pub decreases-entities : goal.decreases-entities
decreases-entities l = length l.entities
