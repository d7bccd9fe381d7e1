use Rattle.std.proofs.Common.{sym, ◌∙◌, arith}
use Rattle.version_chain.proofs.Nodes.{slots_back}
use Rattle.version_chain.proofs.Walks.{past_are_last, forth_start, forth_among, forth_step}
use Rattle.version_chain.proofs.chain.Chain.since.Goals as goal

pub loop-place-init : goal.loop-place-init
loop-place-init g c =
    let nodes = c.self.inside.nodes.items in
    let order = c.self.invariant.ordered in
    let last = past_are_last c.args.mark _ order.ascending in
    record {
      walk = rw (c.in_ok-slots.ensures.items, ← c.self.view_is) (forth_start c.self.inside.order.slots _ last.0 c.min-count.result c.above-above.result.first
          (sym (slots_back nodes _ order.placed) ∙ last.1) (rw (← c.self.view_is) at c.above-above.ensures.first));
      room = omega (arith, c.in_ok-slots.ensures.capacity);
    }

pub after-place-requires : goal.after-place-requires
after-place-requires g c = forth_among _ _ _ _ c.in-Some.slot _ c.in-Some.is c.loop-place.invariant.walk

pub loop-place-preserved : goal.loop-place-preserved
loop-place-preserved g c = record {
  walk = rw (c.push_reserved.ensures.items, c.after-place.ensures)
      (forth_step _ _ _ _ c.in-Some.slot _ c.in-Some.is c.loop-place.invariant.walk c.self.invariant.ordered.apart
      (λ same. c.if-len-count.false (c.len.ensures ∙ c.loop-place.slots.ok.0 ∙ same)));
  room = omega (arith, c.loop-place.invariant.room, c.push_reserved.ensures.capacity);
}
