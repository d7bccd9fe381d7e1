use Rattle.std.proofs.Common.{ap, ◌∙◌}
use Rattle.client_keeper.specs.Slots.{shown}
use Rattle.client_keeper.proofs.SlotLemmas.{shown_set, has_after}
use Rattle.client_keeper.proofs.slots.set_slot.Goals as goal

-- the one slot is set
pub returns-clause-rows : goal.returns-clause-rows
returns-clause-rows c =
    let new = c.get_mut.follows.lender c.args.value in
    let written = c.get_mut.follows.holds c.args.value in
    ap shown written.0
    ∙ shown_set c.args.slots.now.entries c.args.key.now c.args.value c.get_mut.ensures.ordered c.requires

pub returns-clause-kept : goal.returns-clause-kept
returns-clause-kept c = λ other has.
    has_after c.args.slots.now.entries (c.get_mut.follows.lender c.args.value).entries c.args.key.now other c.args.value
    (((c.get_mut.follows.holds c.args.value).3 c.requires).0 other) has
