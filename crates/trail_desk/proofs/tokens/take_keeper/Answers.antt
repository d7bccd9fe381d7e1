use Rattle.std.proofs.Common.{rules, sym, ◌∙◌}
use Rattle.trail_desk.proofs.Keeping.{takes, reads, one_same}
use Rattle.trail_desk.proofs.tokens.take_keeper.Goals as goal

pub join_seat-requires : goal.join_seat-requires
join_seat-requires g c =
    let seat = c.into_seat.ensures in
    let keeper = c.requires.keeper in
    (c.requires.tokens.0, seat.0 ∙ c.requires.tokens.1, seat.3, search rules, takes _ _ _ _ _ keeper.0 (one_same _ _ (sym seat.2 ∙ keeper.1)))

pub load-requires : goal.load-requires
load-requires g c = (search rules, search rules, reads _ _ _ _)
