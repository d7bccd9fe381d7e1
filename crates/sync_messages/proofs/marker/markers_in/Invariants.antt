use Rattle.sync_messages.proofs.ListLemmas.{MarkersSoFar}
use Rattle.sync_messages.proofs.marker.markers_in.Given as goal

abbrev pub invariant-loop-part : goal.invariant-loop-part
invariant-loop-part l = MarkersSoFar l.input l.parts l.part-index l.fault l.markers.items
