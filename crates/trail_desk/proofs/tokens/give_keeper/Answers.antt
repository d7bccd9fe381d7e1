use Rattle.std.proofs.Common.{rules}
use Rattle.trail_desk.proofs.Keeping.{gives}
use Rattle.trail_desk.proofs.tokens.give_keeper.Goals as goal

pub split_seat-requires : goal.split_seat-requires
split_seat-requires g c = (search rules, search rules, gives _ _ _ c.requires.token.0 c.requires.token.1)
