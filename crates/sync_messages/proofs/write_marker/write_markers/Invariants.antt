use Rattle.std.proofs.Common.{◌≡◌, ◌++◌, drop}
use Rattle.sync_messages.specs.Spellings.{markers_bytes}
use Rattle.sync_messages.proofs.write_marker.write_markers.Given as goal

abbrev pub invariant-loop-marker : goal.invariant-loop-marker
invariant-loop-marker l =
    l.writer ++ markers_bytes l.number (drop l.marker-index l.markers) ≡ l.fn.writer ++ markers_bytes l.fn.number l.fn.markers
