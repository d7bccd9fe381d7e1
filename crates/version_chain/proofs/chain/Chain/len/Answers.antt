use Rattle.std.proofs.Common.{sym, ◌∙◌}
use Rattle.version_chain.proofs.Nodes.{entries_counted, are_slots}
use Rattle.version_chain.proofs.chain.Chain.len.Goals as goal

pub returns-clause-len : goal.returns-clause-len
returns-clause-len g c =
    rw (← c.self.view_is) (c.len.ensures ∙ c.self.inside.nodes.ok.0 ∙ sym (entries_counted _ _ c.self.invariant.ordered.placed ∙ c.self.invariant.ordered.counted))

pub returns-clause-slots : goal.returns-clause-slots
returns-clause-slots g c = rw (← c.self.view_is) (are_slots _ _ c.self.invariant.ordered)
