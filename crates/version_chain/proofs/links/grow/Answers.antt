use Rattle.version_chain.proofs.Rows.{grown_links}
use Rattle.version_chain.proofs.links.grow.Goals as goal

pub returns-clause-kept : goal.returns-clause-kept
returns-clause-kept c = grown_links _ _ _ _ c.args.len c.args.links.now.ok.0 c.requires c.resize.ensures.items
