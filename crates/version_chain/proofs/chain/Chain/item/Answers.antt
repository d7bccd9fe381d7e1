use Rattle.std.proofs.Common.{◌<◌, length, arith}
use Rattle.std.proofs.lemmas.Option.{slice_get_read}
use Rattle.version_chain.proofs.Nodes.{entries_counted, item_is}
use Rattle.version_chain.proofs.chain.Chain.item.Goals as goal

pub index-requires : goal.index-requires
index-requires g c =
    omega (arith, rw (← c.self.view_is) at c.requires, entries_counted _ _ c.self.invariant.ordered.placed, c.self.invariant.ordered.counted, c.self.inside.nodes.ok.0)

pub returns : goal.returns
returns g c =
    let order = c.self.invariant.ordered in
    let within : c.args.slot < length c.self.inside.nodes.items = omega (arith, rw (← c.self.view_is) at c.requires, entries_counted _ _ order.placed, order.counted) in
    rw (← c.self.view_is) (item_is _ c.args.slot _ c.index.result.now order.placed (order.complete c.args.slot within)
    (slice_get_read c.self.inside.nodes.items _ c.args.slot c.index.result.now c.self.inside.nodes.ok.0 (omega (arith, within, c.self.inside.nodes.ok.0)) c.index.ensures))
