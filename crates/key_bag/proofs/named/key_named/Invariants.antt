use Rattle.std.proofs.Common.{◌≡◌, drop}
use Rattle.key_bag.specs.Bags.{key_named}
use Rattle.key_bag.proofs.named.key_named.Given as goal

abbrev pub invariant-loop-named : goal.invariant-loop-named
invariant-loop-named l = key_named (drop l.named-index l.keys) l.name ≡ key_named l.fn.keys l.fn.name
