use Rattle.std.proofs.Common.{◌≡◌, map, take}
use Rattle.replay_messages.specs.Replies.{told_marker}
use Rattle.replay_messages.proofs.told.told_markers.Given as goal

abbrev pub invariant-loop-marker : goal.invariant-loop-marker
invariant-loop-marker l = l.told.items ≡ map told_marker (take l.marker-index l.markers)
