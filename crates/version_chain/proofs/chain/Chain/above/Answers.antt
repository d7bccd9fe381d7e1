use Rattle.std.proofs.Common.{ℕ, ◌+◌, Option, Some, sym, subst, arith}
use Rattle.std.proofs.lemmas.Option.{slice_get_read}
use Rattle.version_chain.proofs.Walks.{IsBack, back_among, back_placed, back_step, back_found, back_end}
use Rattle.version_chain.proofs.chain.Chain.above.Goals as goal

pub index-requires : goal.index-requires
index-requires g c =
    omega (arith, back_placed _ _ _ c.self.invariant.ordered c.in-Some.slot _ _ _ c.in-Some.is c.loop-place.invariant, c.self.inside.nodes.ok.0)

pub before-place-requires : goal.before-place-requires
before-place-requires g c = back_among _ _ _ c.self.invariant.ordered c.in-Some.slot _ _ _ c.in-Some.is c.loop-place.invariant

pub loop-place-preserved : goal.loop-place-preserved
loop-place-preserved g c =
    let nodes = c.self.inside.nodes in
    let slot = c.in-Some.slot in
    let within = back_placed _ _ _ c.self.invariant.ordered slot _ _ _ c.in-Some.is c.loop-place.invariant in
    subst (λ (place : Option ℕ). IsBack c.args.mark nodes.items c.self.inside.order.slots place (Some slot) (c.loop-place.above.count + 1)) (sym c.before-place.ensures)
    (back_step _ _ _ c.self.invariant.ordered slot _ _ _ c.in-Some.is c.loop-place.invariant c.index.result.now
    (slice_get_read nodes.items _ slot c.index.result.now nodes.ok.0 (omega (arith, within, nodes.ok.0)) c.index.ensures) c.if-index-mark.false)

pub returns-then-index-mark : goal.returns-then-index-mark
returns-then-index-mark g c =
    let nodes = c.self.inside.nodes in
    let slot = c.in-Some.slot in
    let within = back_placed _ _ _ c.self.invariant.ordered slot _ _ _ c.in-Some.is c.loop-place.invariant in
    rw (← c.self.view_is) (back_found _ _ _ c.self.invariant.ordered slot _ _ _ c.index.result.now c.in-Some.is c.loop-place.invariant
    (slice_get_read nodes.items _ slot c.index.result.now nodes.ok.0 (omega (arith, within, nodes.ok.0)) c.index.ensures) c.if-index-mark.true)

pub returns : goal.returns
returns g c = rw (← c.self.view_is) (back_end _ _ _ c.self.invariant.ordered _ _ _ c.in_default.is c.loop-place.invariant)
