use Rattle.std.proofs.Common.{[], ◌∷◌, ap, ◌∙◌, sym, subst, List}
use Rattle.std.specs.List.{All, range_with_len}
use Rattle.trail_desk.specs.Passes.{DeskName, PassState, IsPassOf}
use Rattle.trail_desk.proofs.Quantifiers.{of_desk}
use Rattle.trail_desk.proofs.desk.Opened.named.Goals as goal

pub new-held-requires-clause-knows : goal.new-held-requires-clause-knows
new-held-requires-clause-knows g c =
    (c.self.inside.table.shared.key, c.self.invariant.core_is, c.into_badge.ensures.2 ∙ ap (λ me. me.0 ∷ []) c.self.invariant.knows)

pub returns-clause-of_desk : goal.returns-clause-of_desk
returns-clause-of_desk g c =
    let name : DeskName g.row.C.Denot = record { table = c.self.inside.table.shared.table_id; opening = c.self.inside.table.shared.key } in
    subst
    (λ (passes : List (PassState g.row.C.Denot g.row.A.Denot g.row.G.Denot)). All (IsPassOf name) passes)
    (sym c.self.invariant.seats)
    (of_desk name (range_with_len 1 name.opening.seats))
