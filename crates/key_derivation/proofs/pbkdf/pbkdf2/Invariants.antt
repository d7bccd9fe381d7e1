use Rattle.std.proofs.Common.{◌≡◌, ◌*◌, length, take}
use Rattle.key_derivation.specs.Pbkdf2.{blocks}
use Rattle.key_derivation.proofs.pbkdf.pbkdf2.Given as goal

abbrev pub invariant-loop-index : goal.invariant-loop-index
invariant-loop-index l = record {
  filled : take (20 * l.index) l.out ≡ take (length l.fn.out) (blocks l.pass l.salt l.turns l.index);
  long : length (blocks l.pass l.salt l.turns l.index) ≡ 20 * l.index;
}
