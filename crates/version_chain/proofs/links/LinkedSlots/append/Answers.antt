use Rattle.std.proofs.Common.{◌≡◌, ℕ, ◌+◌, ◌++◌, ◌∷◌, [], length, ◌∙◌, ap, arith, length-append}
use Rattle.version_chain.specs.Links.{slots_of, AreLinked}
use Rattle.version_chain.proofs.Rows.{few_others, row_is, is_row, last_placed, last_differs, linked_append}
use Rattle.version_chain.proofs.links.LinkedSlots.append.Goals as goal
use Rattle.version_chain.proofs.links.LinkedSlots.append.Goals.{After-link_last}

pub link_last-requires-clause-last : goal.link_last-requires-clause-last
link_last-requires-clause-last c = last_placed _ _ _ c.self.invariant.linked

pub link_last-requires-clause-other : goal.link_last-requires-clause-other
link_last-requires-clause-other c =
    last_differs _ _ _ c.self.invariant.linked c.args.slot (rw (← c.self.view_is) at c.requires.absent)

pub overflow_add-self : goal.overflow_add-self
overflow_add-self c =
    let row = c.self.inside in
    omega (
      arith,
      c.self.invariant.counted,
      few_others (length row.links.items) c.args.slot (slots_of row.links.items row.ends row.len) c.self.invariant.linked.apart c.self.invariant.linked.placed
          (rw (← c.self.view_is) at c.requires.room) (rw (← c.self.view_is) at c.requires.absent),
    )

-- the slots are linked with the new one behind them
linked : (c : After-link_last) → AreLinked c.link_last.new.links.items c.link_last.new.ends (slots_of c.self.inside.links.items c.self.inside.ends c.self.inside.len ++ c.args.slot ∷ [])
linked c =
    linked_append _ _ _ c.self.invariant.linked _ _ c.args.slot (rw (← c.self.view_is) at c.requires.room) (rw (← c.self.view_is) at c.requires.absent)
    c.link_last.ensures.len c.link_last.ensures.appends

counted : (c : After-link_last) → length (slots_of c.self.inside.links.items c.self.inside.ends c.self.inside.len ++ c.args.slot ∷ []) ≡ c.self.inside.len + 1
counted c = omega (arith, c.self.invariant.counted, length-append (slots_of c.self.inside.links.items c.self.inside.ends c.self.inside.len) (c.args.slot ∷ []))

pub invariant_of-self : goal.invariant_of-self
invariant_of-self c =
    let at = (goal.at.invariant_of-self c).After-link_last in
    is_row _ _ _ _ (linked at) (counted at)

pub returns : goal.returns
returns c =
    let at = (goal.at.returns c).After-link_last in
    rw (← c.self.view_is) (ap (λ slots. record { slots = slots; room = length c.link_last.new.links.items }) (row_is _ _ _ _ (linked at) (counted at))
    ∙ ap (λ (room : ℕ). record { slots = slots_of c.self.inside.links.items c.self.inside.ends c.self.inside.len ++ c.args.slot ∷ []; room = room }) c.link_last.ensures.len)
