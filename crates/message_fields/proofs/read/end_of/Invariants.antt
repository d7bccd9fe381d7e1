use Rattle.std.proofs.Common.{◌≡◌, drop}
use Rattle.message_fields.specs.Readings.{end_of}
use Rattle.message_fields.proofs.read.end_of.Given as goal

abbrev pub invariant-loop-part : goal.invariant-loop-part
invariant-loop-part l = end_of l.end (drop l.part-index l.parts) ≡ end_of 0 l.fn.parts
