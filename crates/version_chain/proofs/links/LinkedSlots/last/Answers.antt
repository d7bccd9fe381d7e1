use Rattle.version_chain.specs.Links.{next_of, previous_of, slots_of}
use Rattle.version_chain.proofs.Chains.{last_is}
use Rattle.version_chain.proofs.links.LinkedSlots.last.Goals as goal

pub returns : goal.returns
returns c =
    let row = c.self.inside in
    rw (← c.self.view_is) (last_is (next_of row.links.items row.ends) (previous_of row.links.items row.ends) _ (slots_of row.links.items row.ends row.len) c.self.invariant.linked.chained)
