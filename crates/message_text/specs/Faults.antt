-- What is wrong with bytes that are no message, as it is told.
use Rattle.std.specs.Prelude.{ℕ, List, ◌++◌, codes}
use Rattle.std.specs.Fmt.{decimal}
use Rattle.wire_format.specs.declared.fault.WireReason.{WireReason}
use Rattle.wire_format.specs.declared.fault.WireReason.TheVariants.{Cut, LongVarint, BadKind, ZeroNumber, BigNumber, OpenGroup, StrayEnd, TooDeep}
use Rattle.message_fields.specs.declared.fault.MessageFault.{MessageFault}
use Rattle.message_fields.specs.declared.fault.MessageReason.{MessageReason}
use Rattle.message_fields.specs.declared.fault.MessageReason.TheVariants.{Wire, Missing, WrongKind, Range, BadToken, NoMemory}

-- why bytes are no list of fields
unfoldable pub wire_reason_text : WireReason → List ℕ
wire_reason_text Cut = codes "cut"
wire_reason_text LongVarint = codes "long varint"
wire_reason_text BadKind = codes "bad kind"
wire_reason_text ZeroNumber = codes "zero number"
wire_reason_text BigNumber = codes "big number"
wire_reason_text OpenGroup = codes "open group"
wire_reason_text StrayEnd = codes "stray end"
wire_reason_text TooDeep = codes "too deep"

-- why bytes are no message
unfoldable pub reason_text : MessageReason → List ℕ
reason_text (Wire reason) = wire_reason_text reason
reason_text (Missing field) = codes "missing " ++ decimal field
reason_text (WrongKind field) = codes "wrong kind " ++ decimal field
reason_text (Range field) = codes "range " ++ decimal field
reason_text (BadToken len) = codes "bad token " ++ decimal len
reason_text NoMemory = codes "no memory"

-- where bytes are no message, and why
unfoldable pub fault_text : MessageFault → List ℕ
fault_text fault = codes "at " ++ decimal fault.at ++ codes ": " ++ reason_text fault.reason
