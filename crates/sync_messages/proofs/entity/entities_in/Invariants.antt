use Rattle.sync_messages.proofs.ListLemmas.{EntitiesSoFar}
use Rattle.sync_messages.proofs.entity.entities_in.Given as goal

abbrev pub invariant-loop-part : goal.invariant-loop-part
invariant-loop-part l = EntitiesSoFar l.input l.parts l.part-index l.fault l.entities.items
