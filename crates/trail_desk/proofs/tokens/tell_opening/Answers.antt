use Rattle.std.proofs.Common.{rules}
use Rattle.trail_desk.proofs.Keeping.{tells}
use Rattle.trail_desk.proofs.tokens.tell_opening.Goals as goal

pub load_new_seat-requires : goal.load_new_seat-requires
load_new_seat-requires g c = (search rules, tells c.args.table.now.shared.key c.args.table.now.shared.table_id.slots)
