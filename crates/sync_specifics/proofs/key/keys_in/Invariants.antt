use Rattle.sync_specifics.proofs.KeyLemmas.{KeysSoFar}
use Rattle.sync_specifics.proofs.key.keys_in.Given as goal

abbrev pub invariant-loop-part : goal.invariant-loop-part
invariant-loop-part l = KeysSoFar l.input l.parts l.part-index l.fault l.keys.items
