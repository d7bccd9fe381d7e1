use Rattle.std.proofs.Common.{ℕ, ap, sym, ◌∙◌}
use Rattle.std.specs.Prelude.{◌==◌}
use Rattle.version_chain.proofs.Nodes.{entries_counted}
use Rattle.version_chain.proofs.chain.Chain.is_empty.Goals as goal

pub returns : goal.returns
returns g c =
    rw (← c.self.view_is) (c.is_empty.ensures ∙ ap (λ (len : ℕ). len == 0) (c.self.inside.nodes.ok.0 ∙ sym (entries_counted _ _ c.self.invariant.ordered.placed ∙ c.self.invariant.ordered.counted)))
