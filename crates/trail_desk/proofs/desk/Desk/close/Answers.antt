use Rattle.std.proofs.Common.{◌∙◌, sym, ap, subst, get_or, List}
use Rattle.trail_desk.specs.declared.entry.Entry.{Entry}
use Rattle.trail_desk.specs.Passes.{DeskName, StandsIn}
use Rattle.trail_desk.specs.Held.{HeldState}
use Rattle.trail_desk.proofs.desk.Desk.close.Goals as goal

pub returns-clause-own : goal.returns-clause-own
returns-clause-own g c k d lt =
    subst
    (λ (trail : List (Entry g.row.A.Denot g.row.G.Denot)). StandsIn trail (get_or c.args.passes.items k d))
    (sym (c.into_parts.ensures.trail ∙ ap (λ (held : HeldState g.row.C.Denot g.row.A.Denot g.row.G.Denot). held.trail) c.tell_all.ensures.held))
    (c.tell_all.ensures.stand k d lt)
