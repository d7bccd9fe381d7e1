use Rattle.std.proofs.Common.{refl}
use Rattle.version_chain.proofs.Chains.{appends_by}
use Rattle.version_chain.proofs.links.link_last.Goals as goal

pub returns-clause-appends : goal.returns-clause-appends
returns-clause-appends c =
    appends_by _ _ _ _ _ _ _ _ c.args.slot c.args.ends.now.previous refl c.requires.other c.set_link.ensures.next c.set_link.ensures.previous
    c.set_next.ensures.next c.set_next.ensures.previous c.set_previous.ensures.next c.set_previous.ensures.previous
