use Rattle.std.proofs.Common.{◌∙◌}
use Rattle.schedule_text.proofs.Printed.{text_printed}
use Rattle.schedule_text.proofs.print.print_schedule.Goals as goal

pub returns : goal.returns
returns c =
    c.from_vec.ensures
    ∙ text_printed c.args.schedule.now c.write_number_line.new.out.items c.write_seed.new.out.items c.write_passes.new.out.items c.write_events.new.out.items
    (rw (c.new-out.ensures.items, c.from.ensures) at c.in_ok-write_number_line.ensures.ok)
    c.in_ok-write_seed.ensures.ok
    (rw c.as_slice.ensures at c.in_ok-write_passes.ensures.ok)
    (rw c.as_slice-2.ensures at c.in_ok-write_events.ensures.ok)
