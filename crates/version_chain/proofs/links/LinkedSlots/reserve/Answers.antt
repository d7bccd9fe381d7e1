use Rattle.version_chain.specs.Links.{slots_of}
use Rattle.version_chain.proofs.Rows.{row_is, is_row, next_kept, previous_kept, linked_kept}
use Rattle.version_chain.proofs.links.LinkedSlots.reserve.Goals as goal

pub invariant_of-self : goal.invariant_of-self
invariant_of-self c =
    let row = c.self.inside in
    is_row _ _ row.len (slots_of row.links.items row.ends row.len)
    (linked_kept row.links.items row.ends _ c.self.invariant.linked c.grow.new.links.items row.ends (next_kept row.links.items c.grow.new.links.items row.ends c.grow.ensures.kept)
    (previous_kept row.links.items c.grow.new.links.items row.ends c.grow.ensures.kept) c.grow.ensures.grows) c.self.invariant.counted

pub returns-clause-slots : goal.returns-clause-slots
returns-clause-slots c =
    let row = c.self.inside in
    rw (← c.self.view_is) (row_is _ _ row.len (slots_of row.links.items row.ends row.len)
    (linked_kept row.links.items row.ends _ c.self.invariant.linked c.grow.new.links.items row.ends (next_kept row.links.items c.grow.new.links.items row.ends c.grow.ensures.kept)
    (previous_kept row.links.items c.grow.new.links.items row.ends c.grow.ensures.kept) c.grow.ensures.grows) c.self.invariant.counted)
