use Rattle.std.proofs.Common.{◌≡◌, ◌-◌, [], ◌∷◌, ◌++◌, length, set, Some, refl, ap, sym, ◌∙◌, subst, arith}
use Rattle.std.proofs.lemmas.Option.{slice_get_read}
use Rattle.version_chain.specs.Slots.{IsAmong}
use Rattle.version_chain.specs.Queues.{Queued}
use Rattle.version_chain.specs.Chains.{without_slot}
use Rattle.version_chain.specs.Nodes.{entries_of}
use Rattle.version_chain.proofs.Chains.{among_without}
use Rattle.version_chain.proofs.Nodes.{slot_within, length_set, item_is, entries_touched, ordered_touched}
use Rattle.version_chain.proofs.chain.Chain.touch.Goals as goal

pub unlink-requires : goal.unlink-requires
unlink-requires g c =
    c.self.invariant.ordered.complete c.args.slot (slot_within _ _ c.args.slot c.self.invariant.ordered (rw (← c.self.view_is) at c.requires.live))

pub append-requires-clause-room : goal.append-requires-clause-room
append-requires-clause-room g c =
    omega (arith, slot_within _ _ c.args.slot c.self.invariant.ordered (rw (← c.self.view_is) at c.requires.live), ap (λ (queue : Queued). queue.room) c.unlink.ensures, c.self.invariant.within)

pub append-requires-clause-absent : goal.append-requires-clause-absent
append-requires-clause-absent g c found =
    (among_without c.args.slot c.args.slot c.self.inside.order.slots (subst (IsAmong c.args.slot) (ap (λ (queue : Queued). queue.slots) c.unlink.ensures) found)).1 refl

pub index_mut-requires : goal.index_mut-requires
index_mut-requires g c = omega (arith, slot_within _ _ c.args.slot c.self.invariant.ordered (rw (← c.self.view_is) at c.requires.live), c.self.inside.nodes.ok.0)

pub invariant_of-self : goal.invariant_of-self
invariant_of-self g c =
    let order = c.self.inside.order in
    record {
      ordered = rw (c.replace-node.ensures.after, c.append.ensures, c.unlink.ensures)
          (ordered_touched c.self.inside.nodes.items c.args.slot order.slots record { version = c.args.version; item = c.args.item } c.self.invariant.ordered (slot_within _ _ c.args.slot c.self.invariant.ordered (rw (← c.self.view_is) at c.requires.live))
          (rw (← c.self.view_is) at c.requires.above));
      room = omega (arith, ap (λ (queue : Queued). queue.room) c.append.ensures, ap (λ (queue : Queued). queue.room) c.unlink.ensures, c.self.invariant.room);
      within = omega (
        arith,
        ap (λ (queue : Queued). queue.room) c.append.ensures,
        ap (λ (queue : Queued). queue.room) c.unlink.ensures,
        c.self.invariant.within,
        length_set c.self.inside.nodes.items c.args.slot c.replace-node.new.dest,
      );
    }

pub returns-clause-replaced : goal.returns-clause-replaced
returns-clause-replaced g c =
    let order = c.self.invariant.ordered in
    rw (← c.self.view_is) (item_is _ c.args.slot _ c.replace-node.result order.placed (order.complete c.args.slot (slot_within _ _ c.args.slot c.self.invariant.ordered (rw (← c.self.view_is) at c.requires.live)))
    (slice_get_read c.self.inside.nodes.items _ c.args.slot c.index_mut.result.now c.self.inside.nodes.ok.0 (omega (arith, slot_within _ _ c.args.slot c.self.invariant.ordered (rw (← c.self.view_is) at c.requires.live), c.self.inside.nodes.ok.0)) c.index_mut.ensures.value
    ∙ ap Some (sym c.replace-node.ensures.value)))

pub returns-clause-moved : goal.returns-clause-moved
returns-clause-moved g c =
    let nodes = c.self.inside.nodes.items in
    let order = c.self.inside.order in
    let moved : entries_of (set nodes c.args.slot c.replace-node.new.dest) c.append.new.self.slots
    ≡ without_slot c.args.slot (entries_of nodes order.slots) ++ record { slot = c.args.slot; version = c.args.version; item = c.args.item } ∷ [] =
    rw (c.replace-node.ensures.after, c.append.ensures, c.unlink.ensures)
    (entries_touched nodes c.args.slot order.slots record { version = c.args.version; item = c.args.item } c.self.invariant.ordered.placed
    (slot_within _ _ c.args.slot c.self.invariant.ordered (rw (← c.self.view_is) at c.requires.live))) in
    let spare : c.append.new.self.room - length (set nodes c.args.slot c.replace-node.new.dest) ≡ order.room - length nodes =
    omega (
      arith,
      ap (λ (queue : Queued). queue.room) c.append.ensures,
      ap (λ (queue : Queued). queue.room) c.unlink.ensures,
      length_set nodes c.args.slot c.replace-node.new.dest,
    ) in
    rw (← c.self.view_is) (λ i. record { entries = moved i; spare = spare i })
