use Rattle.std.proofs.Common.{◌≡◌, ◌++◌, drop}
use Rattle.message_fields.specs.Unknown.{extra_of}
use Rattle.message_fields.proofs.message.Message.unknown.Given as goal

abbrev pub invariant-loop-field : goal.invariant-loop-field
invariant-loop-field l =
    l.bytes.items ++ extra_of l.known l.input (drop l.field-index l.field-items) ≡ extra_of l.fn.known l.fn.input l.fn.self.fields
