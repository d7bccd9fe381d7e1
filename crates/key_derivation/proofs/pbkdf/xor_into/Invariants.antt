use Rattle.std.proofs.Common.{◌≡◌}
use Rattle.key_derivation.specs.Pbkdf2.{xor_bytes}
use Rattle.key_derivation.proofs.Writes.{replaced}
use Rattle.key_derivation.proofs.pbkdf.xor_into.Given as goal

abbrev pub invariant-loop-index : goal.invariant-loop-index
invariant-loop-index l = l.block ≡ replaced l.fn.block (xor_bytes l.fn.block l.value) l.index
