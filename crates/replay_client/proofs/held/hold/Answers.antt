use Rattle.std.proofs.Common.{length, arith, ap}
use Rattle.replay_client.proofs.HeldLemmas.{step_hold, end_hold}
use Rattle.replay_client.proofs.held.hold.Goals as goal

pub offers-preserved : goal.offers-preserved
offers-preserved c = record {
  room = omega (arith, ap length c.in-Some.ensures.items, c.push_reserved.ensures.len, c.push_reserved.ensures.capacity, c.offers.invariant.room);
  same = step_hold c.offers.held.items c.push_reserved.new.self.items c.offers.offers.items c.in-Some.offer c.pop_front.new.self.items _
      c.in-Some.ensures.items (rw c.entry_of.ensures at c.push_reserved.ensures.items) c.offers.invariant.same;
}

pub returns : goal.returns
returns c =
    end_hold c.offers.held.items c.offers.offers.items c.pop_front.new.self.items _ c.in_default.ensures.items c.in_default.ensures.rest
    (rw c.from_vec-offers.ensures.items at c.offers.invariant.same)
