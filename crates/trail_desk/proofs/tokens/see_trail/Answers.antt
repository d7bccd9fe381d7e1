use Rattle.std.proofs.Common.{rules}
use Rattle.trail_desk.proofs.Keeping.{sees}
use Rattle.trail_desk.proofs.tokens.see_trail.Goals as goal

pub load-requires : goal.load-requires
load-requires g c = (search rules, search rules, sees _ _ _ _ c.requires.token.0 c.requires.token.1)
