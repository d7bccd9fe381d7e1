use Rattle.std.proofs.Common.{subst, sym}
use Rattle.message_fields.specs.Fields.{ArePartsOf}
use Rattle.sync_messages.proofs.reply.updates_in.Goals as goal

pub entities_in-requires : goal.entities_in-requires
entities_in-requires c =
    subst (ArePartsOf c.args.input.now) (sym c.as_slice.ensures.value)
    (c.in_ok-entry_parts.ensures.within c.args.input.now c.in_ok-message.ensures.within)

pub markers_in-requires : goal.markers_in-requires
markers_in-requires c =
    subst (ArePartsOf c.args.input.now) (sym c.as_slice-2.ensures.value)
    (c.in_ok-marker_parts.ensures.within c.args.input.now c.in_ok-message.ensures.within)
