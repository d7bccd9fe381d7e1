use Rattle.std.proofs.Common.{rules}
use Rattle.trail_desk.proofs.Keeping.{adds}
use Rattle.trail_desk.proofs.tokens.add_entry.Goals as goal

pub fetch_add-requires : goal.fetch_add-requires
fetch_add-requires g c =
    let t = c.requires.token in
    (search rules, search rules, adds _ _ _ _ t.0 t.1 c.args.entry.now g.E.Named.is t.2 t.3 t.4 t.5 c.requires.is)
