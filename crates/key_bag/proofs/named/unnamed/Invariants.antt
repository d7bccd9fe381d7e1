use Rattle.std.proofs.Common.{◌≡◌, map, take}
use Rattle.key_bag.proofs.named.unnamed.Given as goal

abbrev pub invariant-loop-named : goal.invariant-loop-named
invariant-loop-named l = l.unnamed.items ≡ map (λ named. named.key) (take l.named-index l.keys)
