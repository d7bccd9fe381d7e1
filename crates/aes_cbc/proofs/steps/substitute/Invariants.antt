use Rattle.std.proofs.Common.{◌≡◌, ℕ, ◌+◌, ◌/◌, ◌%◌, ◌<◌, length, get_or}
use Rattle.aes_cbc.specs.Substitution.{sub_byte}
use Rattle.aes_cbc.specs.Block.{byte_at}
use Rattle.aes_cbc.proofs.steps.substitute.Given as goal

abbrev pub invariant-bytes : goal.invariant-bytes
invariant-bytes l = (length l.state ≡ 16) × ((k : ℕ) → k < l.i → get_or l.state k 0 ≡ sub_byte (byte_at l.block (k % 4) ((k / 4 + k % 4) % 4)))
