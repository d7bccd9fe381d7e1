use Rattle.message_fields.specs.Readings.{is_kept}
use Rattle.message_fields.proofs.MessageLemmas.{ReadUpTo}
use Rattle.message_fields.proofs.read.read_pieces.Given as goal

abbrev pub invariant-loop-part : goal.invariant-loop-part
invariant-loop-part l = ReadUpTo (is_kept l.known) l.input l.parts l.part-index l.fields.items
