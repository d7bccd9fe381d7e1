use Rattle.std.proofs.Common.{◌≡◌, ◌++◌, length}
use Rattle.replay_client.specs.Readings.{acks_read}
use Rattle.replay_client.proofs.updates.acks_of.Given as goal

abbrev pub invariant-entries : goal.invariant-entries
invariant-entries l = l.acks ++ acks_read l.entries l.answers ≡ acks_read l.initial.entries l.initial.answers

abbrev pub decreases-entries : goal.decreases-entries
decreases-entries l = length l.entries
