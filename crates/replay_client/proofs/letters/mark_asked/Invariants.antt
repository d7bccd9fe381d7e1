use Rattle.std.proofs.Common.{◌≡◌, drop}
use Rattle.std.specs.Option.{option_or}
use Rattle.sync_model.specs.Servers.{mark_of}
use Rattle.replay_client.proofs.letters.mark_asked.Given as goal

abbrev pub invariant-loop-marker : goal.invariant-loop-marker
invariant-loop-marker l = option_or (mark_of l.kind (drop l.marker-index l.markers)) l.mark ≡ mark_of l.kind l.markers
