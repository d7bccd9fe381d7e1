use Rattle.std.proofs.Common.{true}
use Rattle.std.proofs.lemmas.Result.{IfOk-weaker}
use Rattle.message_fields.specs.Readings.{IsReadingOf, IsWholeReading}
use Rattle.message_fields.proofs.MessageLemmas.{whole_read}
use Rattle.message_fields.proofs.message.Message.read_whole.Goals as goal

pub returns-clause-reading : goal.returns-clause-reading
returns-clause-reading c =
    IfOk-weaker c.read_pieces.result (IsReadingOf (λ field. true) c.args.input.now c.args.parts.now)
    (IsWholeReading c.args.input.now c.args.parts.now) (whole_read c.args.input.now c.args.parts.now) c.read_pieces.ensures.reading
