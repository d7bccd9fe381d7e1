use Rattle.std.proofs.Common.{◌≡◌, map, drop}
use Rattle.std.specs.Option.{option_or}
use Rattle.sync_model.specs.Servers.{mark_of}
use Rattle.replay_messages.specs.Replies.{marker_in}
use Rattle.loopback_server.proofs.asked.mark_of.Given as goal

abbrev pub invariant-loop-marker : goal.invariant-loop-marker
invariant-loop-marker l = option_or (mark_of l.kind (map marker_in (drop l.marker-index l.markers))) l.mark ≡ mark_of l.kind (map marker_in l.markers)
