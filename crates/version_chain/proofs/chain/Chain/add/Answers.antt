use Rattle.std.proofs.Common.{◌≡◌, ◌-◌, ◌∷◌, [], ◌++◌, length, ap, sym, ◌∙◌, arith, length-append}
use Rattle.version_chain.specs.Queues.{Queued}
use Rattle.version_chain.specs.Nodes.{entries_of}
use Rattle.version_chain.proofs.Nodes.{entries_counted, not_placed, entries_added, ordered_added}
use Rattle.version_chain.proofs.chain.Chain.add.Goals as goal
use Rattle.version_chain.proofs.chain.Chain.add.Goals.{After-append}
use Rattle.version_chain.proofs.chain.Chain.add.Given.{Over}

pub append-requires-clause-absent : goal.append-requires-clause-absent
append-requires-clause-absent g c found =
    not_placed _ _ c.self.invariant.ordered.placed (rw (c.len-slot.ensures, c.self.inside.nodes.ok.0) at found)

pub returns-clause-slot : goal.returns-clause-slot
returns-clause-slot g c =
    rw (← c.self.view_is) (c.len-slot.ensures ∙ c.self.inside.nodes.ok.0 ∙ sym (entries_counted _ _ c.self.invariant.ordered.placed ∙ c.self.invariant.ordered.counted))

pub invariant_of-self : goal.invariant_of-self
invariant_of-self g c =
    let nodes = c.self.inside.nodes in
    record {
      ordered = rw (c.push_reserved.ensures.items, c.append.ensures, c.len-slot.ensures, nodes.ok.0)
          (ordered_added nodes.items c.self.inside.order.slots record { version = c.args.version; item = c.args.item } c.self.invariant.ordered (rw (← c.self.view_is) at c.requires.above));
      room = omega (arith, ap (λ (queue : Queued). queue.room) c.append.ensures, c.self.invariant.room, c.push_reserved.ensures.capacity);
      within = omega (
        arith,
        ap (λ (queue : Queued). queue.room) c.append.ensures,
        ap length c.push_reserved.ensures.items,
        length-append nodes.items (record { version = c.args.version; item = c.args.item } ∷ []),
        rw (← c.self.view_is) at c.requires.spare,
      );
    }

-- the entries with the new one behind them
added : (g : Over) (c : After-append g) → entries_of c.push_reserved.new.self.items c.append.new.self.slots
    ≡ entries_of c.self.inside.nodes.items c.self.inside.order.slots ++ record { slot = c.len-slot.result; version = c.args.version; item = c.args.item } ∷ []
added g c =
    let nodes = c.self.inside.nodes in
    rw (c.push_reserved.ensures.items, c.append.ensures, c.len-slot.ensures, nodes.ok.0)
    (entries_added nodes.items c.self.inside.order.slots record { version = c.args.version; item = c.args.item } c.self.invariant.ordered.placed)

spare_left : (g : Over) (c : After-append g) → c.append.new.self.room - length c.push_reserved.new.self.items ≡ c.self.inside.order.room - length c.self.inside.nodes.items - 1
spare_left g c =
    omega (
      arith,
      ap (λ (queue : Queued). queue.room) c.append.ensures,
      ap length c.push_reserved.ensures.items,
      length-append c.self.inside.nodes.items (record { version = c.args.version; item = c.args.item } ∷ []),
    )

pub returns-clause-added : goal.returns-clause-added
returns-clause-added g c =
    let at = (goal.at.returns-clause-added g c).After-append in
    rw (← c.self.view_is) (λ i. record { entries = added g at i; spare = spare_left g at i })
