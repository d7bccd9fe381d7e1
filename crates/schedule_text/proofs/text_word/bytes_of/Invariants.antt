use Rattle.std.proofs.Common.{◌≡◌, ◌++◌, length}
use Rattle.std.specs.List.{flat_map}
use Rattle.sync_model.specs.Text.{byte_text}
use Rattle.schedule_text.specs.Spelling.{AreBytes}
use Rattle.schedule_text.proofs.text_word.bytes_of.Given as goal

abbrev pub invariant-loop-rest : goal.invariant-loop-rest
invariant-loop-rest l = (l.word ≡ flat_map byte_text l.bytes.items ++ l.rest) × AreBytes l.bytes.items

abbrev pub decreases-loop-rest : goal.decreases-loop-rest
decreases-loop-rest l = length l.rest
