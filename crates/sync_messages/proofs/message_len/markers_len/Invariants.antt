use Rattle.std.proofs.Common.{take}
use Rattle.sync_messages.specs.Lengths.{IsLength}
use Rattle.sync_messages.specs.Spellings.{markers_bytes}
use Rattle.sync_messages.proofs.message_len.markers_len.Given as goal

abbrev pub invariant-loop-marker : goal.invariant-loop-marker
invariant-loop-marker l = IsLength l.total (markers_bytes l.number (take l.marker-index l.markers))
