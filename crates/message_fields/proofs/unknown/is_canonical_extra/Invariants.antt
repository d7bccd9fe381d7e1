use Rattle.std.proofs.Common.{◌-◌, length}
use Rattle.message_fields.proofs.LeastFields.{CanonicalSoFar}
use Rattle.message_fields.proofs.unknown.is_canonical_extra.Given as goal

abbrev pub invariant-loop-field : goal.invariant-loop-field
invariant-loop-field l = CanonicalSoFar l.known l.extra l.reader

abbrev pub decreases-loop-field : goal.decreases-loop-field
decreases-loop-field l = length l.reader.bytes - l.reader.at
