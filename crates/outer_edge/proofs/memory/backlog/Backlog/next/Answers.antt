use Rattle.std.proofs.Common.{sym, subst, All}
use Rattle.std.proofs.lemmas.List.Elements.{All-drop}
use Rattle.outer_edge.specs.MemoryNets.{IsUnused}
use Rattle.outer_edge.proofs.memory.backlog.Backlog.next.Goals as goal

-- what is left of unused links is unused
pub invariant_of-self : goal.invariant_of-self
invariant_of-self c =
    subst (All IsUnused) (sym c.pop_front.ensures.rest) (All-drop IsUnused 1 c.self.inside.links.items c.self.invariant)
