use Rattle.std.proofs.Common.{◌-◌, length}
use Rattle.message_fields.specs.Readings.{is_kept}
use Rattle.message_fields.proofs.PieceLemmas.{ReadSoFar}
use Rattle.message_fields.proofs.read.read_part.Given as goal

abbrev pub invariant-loop-field : goal.invariant-loop-field
invariant-loop-field l = ReadSoFar (is_kept l.known) l.input l.part l.initial.fields.items l.fields.items l.reader

abbrev pub decreases-loop-field : goal.decreases-loop-field
decreases-loop-field l = length l.reader.bytes - l.reader.at
