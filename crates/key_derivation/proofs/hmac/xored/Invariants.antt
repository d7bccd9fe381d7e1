use Rattle.std.proofs.Common.{◌≡◌}
use Rattle.key_derivation.specs.Hmac.{xored}
use Rattle.key_derivation.proofs.Writes.{replaced}
use Rattle.key_derivation.proofs.hmac.xored.Given as goal

abbrev pub invariant-loop-byte : goal.invariant-loop-byte
invariant-loop-byte l = l.byte-items ≡ replaced l.block (xored l.block l.pad) l.byte-index
