use Rattle.std.proofs.Common.{◌≡◌}
use Rattle.aes_cbc.specs.Cipher.{after_rounds}
use Rattle.aes_cbc.proofs.schedule.Schedule.encrypt_block.Given as goal

abbrev pub invariant-rounds : goal.invariant-rounds
invariant-rounds l = l.state ≡ after_rounds l.self l.block l.round
