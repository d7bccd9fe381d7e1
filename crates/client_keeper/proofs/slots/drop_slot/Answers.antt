use Rattle.std.proofs.Common.{sym, ap, ◌∙◌, Some}
use Rattle.std.specs.Option.{option_copied}
use Rattle.client_keeper.specs.Slots.{shown}
use Rattle.client_keeper.proofs.SlotLemmas.{shown_dropped}
use Rattle.client_keeper.proofs.slots.drop_slot.Goals as goal

-- the slot that was found is empty
pub returns-in-Some-None : goal.returns-in-Some-None
returns-in-Some-None c =
    ap shown c.remove-emptied.ensures.entries
    ∙ shown_dropped c.args.slots.now.entries c.args.key.now
    (sym c.get.ensures.value ∙ ap option_copied c.in-Some-None.is ∙ ap Some c.in-Some-None.field-0-is)
