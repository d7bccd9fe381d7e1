use Rattle.std.proofs.Common.{◌≡◌, length, take}
use Rattle.aes_cbc.specs.Expansion.{first_words}
use Rattle.aes_cbc.proofs.schedule.Schedule.new.Given as goal

abbrev pub invariant-words : goal.invariant-words
invariant-words l = (length l.words ≡ 44) × (take l.i l.words ≡ first_words l.key l.i)
