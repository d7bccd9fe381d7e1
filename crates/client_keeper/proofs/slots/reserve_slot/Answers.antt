use Rattle.std.proofs.Common.{sym, ap, ◌∙◌}
use Rattle.client_keeper.specs.Slots.{shown}
use Rattle.client_keeper.proofs.SlotLemmas.{shown_with_slot, has_after}
use Rattle.client_keeper.proofs.slots.reserve_slot.Goals as goal

-- the new slot is empty
pub returns-clause-rows : goal.returns-clause-rows
returns-clause-rows c =
    ap shown c.in_ok-insert.ensures.entries
    ∙ shown_with_slot c.args.slots.now.entries c.args.key.now c.in_ok-copy.field-0 c.in_ok-copy.ensures
    (sym c.contains_key.ensures ∙ c.if-contains_key.false)

pub returns-clause-kept : goal.returns-clause-kept
returns-clause-kept c = λ other has.
    has_after c.args.slots.now.entries c.insert.new.self.entries c.in_ok-copy.field-0 other _ (c.in_ok-insert.ensures.updates.0 other) has
