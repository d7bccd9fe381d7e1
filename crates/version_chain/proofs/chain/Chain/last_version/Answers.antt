use Rattle.std.proofs.Common.{◌≡◌, ℕ, ◌<◌, length, ap, sym, arith, subst}
use Rattle.std.proofs.lemmas.Option.{slice_get_read}
use Rattle.version_chain.specs.Chains.{IsAbove, greatest}
use Rattle.version_chain.proofs.Rows.{at_among}
use Rattle.version_chain.proofs.Walks.{last_among, last_greatest, none_greatest}
use Rattle.version_chain.specs.Nodes.{entries_of}
use Rattle.version_chain.proofs.chain.Chain.last_version.Goals as goal
use Rattle.version_chain.proofs.chain.Chain.last_version.Goals.{After-index}
use Rattle.version_chain.proofs.chain.Chain.last_version.Given.{Over}

pub index-requires : goal.index-requires
index-requires g c =
    let within : c.in-Some.slot < length c.self.inside.nodes.items = at_among (λ slot. slot < length c.self.inside.nodes.items) c.in-Some.slot c.self.inside.order.slots c.self.invariant.ordered.placed
    (last_among c.self.inside.order.slots _ c.in-Some.slot c.last.ensures c.in-Some.is) in
    omega (arith, within, c.self.inside.nodes.ok.0)

-- what the last slot says of the entries
last_is : (g : Over) (c : After-index g) → (c.index.result.now.version ≡ greatest (entries_of c.self.inside.nodes.items c.self.inside.order.slots))
    × ((version : ℕ) → c.index.result.now.version < version → IsAbove version (entries_of c.self.inside.nodes.items c.self.inside.order.slots))
last_is g c =
    let nodes = c.self.inside.nodes in
    let slots = c.self.inside.order.slots in
    let within : c.in-Some.slot < length nodes.items =
    at_among (λ slot. slot < length nodes.items) c.in-Some.slot slots c.self.invariant.ordered.placed (last_among slots _ c.in-Some.slot c.last.ensures c.in-Some.is) in
    last_greatest nodes.items slots _ c.in-Some.slot c.index.result.now c.self.invariant.ordered c.last.ensures c.in-Some.is
    (slice_get_read nodes.items _ c.in-Some.slot c.index.result.now nodes.ok.0 (omega (arith, within, nodes.ok.0)) c.index.ensures)

pub returns-in-Some-clause-greatest : goal.returns-in-Some-clause-greatest
returns-in-Some-clause-greatest g c = rw (← c.self.view_is) (last_is g c).0

pub returns-in-Some-clause-above : goal.returns-in-Some-clause-above
returns-in-Some-clause-above g c = rw (← c.self.view_is) (last_is g c).1

pub returns-in-None-clause-greatest : goal.returns-in-None-clause-greatest
returns-in-None-clause-greatest g c =
    rw (← c.self.view_is) (ap greatest (sym (none_greatest c.self.inside.nodes.items _ _ c.last.ensures c.in-None.is)))

pub returns-in-None-clause-above : goal.returns-in-None-clause-above
returns-in-None-clause-above g c = λ version above.
    rw (← c.self.view_is) (subst (IsAbove version) (sym (none_greatest c.self.inside.nodes.items _ _ c.last.ensures c.in-None.is)) tt)
