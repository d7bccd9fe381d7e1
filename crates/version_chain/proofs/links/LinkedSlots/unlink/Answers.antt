use Rattle.std.proofs.Common.{◌≡◌, ℕ, ◌-◌, ◌<◌, length, ◌∙◌, ap, arith}
use Rattle.version_chain.specs.Slots.{without}
use Rattle.version_chain.specs.Links.{slots_of, AreLinked}
use Rattle.version_chain.proofs.Chains.{length_without}
use Rattle.version_chain.proofs.Rows.{at_among, row_is, is_row, previous_placed, next_placed, linked_skip}
use Rattle.version_chain.proofs.links.LinkedSlots.unlink.Goals as goal
use Rattle.version_chain.proofs.links.LinkedSlots.unlink.Goals.{After-skip}

pub skip-requires-clause-slot : goal.skip-requires-clause-slot
skip-requires-clause-slot c =
    let row = c.self.inside in
    at_among (λ slot. slot < length row.links.items) c.args.slot (slots_of row.links.items row.ends row.len) c.self.invariant.linked.placed (rw (← c.self.view_is) at c.requires)

pub skip-requires-clause-previous : goal.skip-requires-clause-previous
skip-requires-clause-previous c = previous_placed _ _ _ c.self.invariant.linked c.args.slot (rw (← c.self.view_is) at c.requires)

pub skip-requires-clause-next : goal.skip-requires-clause-next
skip-requires-clause-next c = next_placed _ _ _ c.self.invariant.linked c.args.slot (rw (← c.self.view_is) at c.requires)

-- the other slots are linked
linked : (c : After-skip) → AreLinked c.skip.new.links.items c.skip.new.ends (without c.args.slot (slots_of c.self.inside.links.items c.self.inside.ends c.self.inside.len))
linked c =
    linked_skip _ _ _ c.self.invariant.linked _ _ c.args.slot (rw (← c.self.view_is) at c.requires) c.skip.ensures.len c.skip.ensures.skips

counted : (c : After-skip) → length (without c.args.slot (slots_of c.self.inside.links.items c.self.inside.ends c.self.inside.len)) ≡ c.self.inside.len - 1
counted c =
    omega (
      arith,
      c.self.invariant.counted,
      length_without c.args.slot (slots_of c.self.inside.links.items c.self.inside.ends c.self.inside.len) c.self.invariant.linked.apart
          (rw (← c.self.view_is) at c.requires),
    )

pub invariant_of-self : goal.invariant_of-self
invariant_of-self c =
    let at = (goal.at.invariant_of-self c).After-skip in
    is_row _ _ _ _ (linked at) (counted at)

pub returns : goal.returns
returns c =
    let at = (goal.at.returns c).After-skip in
    rw (← c.self.view_is) (ap (λ slots. record { slots = slots; room = length c.skip.new.links.items }) (row_is _ _ _ _ (linked at) (counted at))
    ∙ ap (λ (room : ℕ). record { slots = without c.args.slot (slots_of c.self.inside.links.items c.self.inside.ends c.self.inside.len); room = room }) c.skip.ensures.len)
