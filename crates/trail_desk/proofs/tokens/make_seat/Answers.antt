use Rattle.std.proofs.Common.{rules, ap}
use Rattle.trail_desk.proofs.Keeping.{makes}
use Rattle.trail_desk.proofs.tokens.make_seat.Goals as goal

pub split_seat-requires : goal.split_seat-requires
split_seat-requires g c = (search rules, search rules, makes _ _ _ c.requires.keeper.0 (ap (λ me. me.0) c.requires.keeper.1))
