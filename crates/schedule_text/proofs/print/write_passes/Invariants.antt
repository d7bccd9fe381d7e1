use Rattle.std.proofs.Common.{◌≡◌, ◌++◌, take}
use Rattle.std.specs.List.{flat_map}
use Rattle.schedule_text.specs.Printing.{pass_text}
use Rattle.schedule_text.proofs.print.write_passes.Given as goal

abbrev pub invariant-loop-pass : goal.invariant-loop-pass
invariant-loop-pass l = l.out.items ≡ l.fn.out.items ++ flat_map pass_text (take l.pass-index l.passes)
