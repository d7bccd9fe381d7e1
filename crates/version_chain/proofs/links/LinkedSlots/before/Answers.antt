use Rattle.std.proofs.Common.{length, ◌<◌, ◌∙◌, ap, arith}
use Rattle.version_chain.specs.declared.links.Link.{Link}
use Rattle.version_chain.specs.Links.{next_of, previous_of, slots_of}
use Rattle.version_chain.proofs.Chains.{before_is}
use Rattle.version_chain.proofs.Rows.{at_among}
use Rattle.version_chain.proofs.links.LinkedSlots.before.Goals as goal

pub link_at-requires : goal.link_at-requires
link_at-requires c =
    let row = c.self.inside in
    omega (
      arith,
      at_among (λ slot. slot < length row.links.items) c.args.slot (slots_of row.links.items row.ends row.len)
          c.self.invariant.linked.placed (rw (← c.self.view_is) at c.requires),
    )

pub returns : goal.returns
returns c =
    let row = c.self.inside in
    rw (← c.self.view_is) (ap (λ (link : Link). link.previous) (rw c.deref.ensures.value at c.link_at.ensures) ∙ before_is (next_of row.links.items row.ends) (previous_of row.links.items row.ends) _ c.args.slot (slots_of row.links.items row.ends row.len)
    c.self.invariant.linked.chained (rw (← c.self.view_is) at c.requires))
