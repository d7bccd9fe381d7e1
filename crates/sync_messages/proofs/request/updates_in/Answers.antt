use Rattle.std.proofs.Common.{subst, sym}
use Rattle.message_fields.specs.Fields.{ArePartsOf}
use Rattle.sync_messages.proofs.request.updates_in.Goals as goal

pub markers_in-requires : goal.markers_in-requires
markers_in-requires c =
    subst (ArePartsOf c.args.input.now) (sym c.as_slice.ensures.value)
    (c.in_ok-parts.ensures.within c.args.input.now c.requires)
