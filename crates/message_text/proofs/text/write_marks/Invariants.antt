use Rattle.std.proofs.Common.{◌≡◌, ◌++◌, take}
use Rattle.std.specs.List.{flat_map}
use Rattle.message_text.specs.Lines.{mark_line}
use Rattle.message_text.proofs.text.write_marks.Given as goal

abbrev pub invariant-loop-marker : goal.invariant-loop-marker
invariant-loop-marker l = l.out.items ≡ l.fn.out.items ++ flat_map mark_line (take l.marker-index l.markers)
