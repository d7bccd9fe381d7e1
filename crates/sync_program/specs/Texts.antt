-- The lines that the program prints where it refuses.
use Rattle.std.specs.Prelude.{ℕ, List, [], ◌∷◌, ◌++◌, codes}
use Rattle.std.specs.Fmt.{decimal}
use Rattle.message_fields.specs.declared.fault.MessageFault.{MessageFault}
use Rattle.schedule_text.specs.declared.fault.LineReason.{LineReason}
use Rattle.schedule_text.specs.declared.fault.LineReason.TheVariants.{End, Form, Number, Range, Word, Many, Later}
use Rattle.message_text.specs.Faults.{fault_text}

-- the words of the command line are none that the program knows
unfoldable pub unknown_words_line : List ℕ
unknown_words_line = codes "unknown words\n"

-- the source failed
unfoldable pub read_fault_line : List ℕ
read_fault_line = codes "read fault\n"

-- memory was wanting
unfoldable pub no_memory_line : List ℕ
no_memory_line = codes "no memory\n"

-- the input is longer than it may be
unfoldable pub too_big_line : List ℕ
too_big_line = codes "too big\n"

-- why a line cannot stand in its place, and the end of the text
unfoldable pub reason_end : LineReason → List ℕ
reason_end End = codes ": end\n"
reason_end Form = codes ": form\n"
reason_end Number = codes ": number\n"
reason_end Range = codes ": range\n"
reason_end Word = codes ": word\n"
reason_end Many = codes ": many\n"
reason_end Later = codes ": later\n"

-- the first line that cannot stand in its place, and why
unfoldable pub bad_schedule_line : ℕ → LineReason → List ℕ
bad_schedule_line line reason = codes "bad schedule: line " ++ decimal line ++ reason_end reason

-- where the bytes are no message, and why
unfoldable pub bad_message_line : MessageFault → List ℕ
bad_message_line fault = codes "bad message: " ++ fault_text fault ++ 10 ∷ []
