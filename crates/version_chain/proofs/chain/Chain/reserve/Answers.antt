use Rattle.std.proofs.Common.{length, ap, arith}
use Rattle.version_chain.proofs.chain.Chain.reserve.Goals as goal

pub invariant_of-self-in-Some-checked_sub : goal.invariant_of-self-in-Some-checked_sub
invariant_of-self-in-Some-checked_sub g c = record {
  ordered = rw (c.in_ok-reserve.ensures.items, c.reserve-in-Some-checked_sub.ensures.slots) c.self.invariant.ordered;
  room = omega (
    arith,
    c.reserve-in-Some-checked_sub.ensures.most,
    c.self.invariant.room,
    c.in_ok-reserve.ensures.capacity,
    c.in_ok-reserve.ensures.ok,
    c.in-Some-checked_sub.ensures,
    c.in-Some.ensures,
    c.self.inside.nodes.ok.0,
  );
  within = omega (arith, ap length c.in_ok-reserve.ensures.items, c.reserve-in-Some-checked_sub.ensures.grows, c.self.invariant.within);
}
