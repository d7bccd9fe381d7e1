use Rattle.std.proofs.Common.{Some}
use Rattle.loopback_server.proofs.Ties.{updated, placed_is_there}
use Rattle.loopback_server.proofs.index.set_version.Goals as goal

pub returns : goal.returns
returns c = updated c.args.index.now.entries c.insert.new.self.entries c.args.key (Some c.args.version) c.in-Ok.ensures.updates.0

pub returns-in_default : goal.returns-in_default
returns-in_default c =
    absurd (placed_is_there c.args.index.now.entries c.args.key c.requires c.in_default.ensures.absent)
