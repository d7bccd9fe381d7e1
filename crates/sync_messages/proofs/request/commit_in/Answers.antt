use Rattle.std.proofs.Common.{subst, sym}
use Rattle.message_fields.specs.Fields.{ArePartsOf}
use Rattle.sync_messages.proofs.request.commit_in.Goals as goal

pub entities_in-requires : goal.entities_in-requires
entities_in-requires c =
    subst (ArePartsOf c.args.input.now) (sym c.as_slice.ensures.value)
    (c.in_ok-parts.ensures.within c.args.input.now c.requires)
