use Rattle.std.proofs.Common.{subst, sym}
use Rattle.message_fields.specs.Fields.{ArePartsOf}
use Rattle.sync_messages.proofs.entity.EntityFields.read.Goals as goal

pub read-requires-2 : goal.read-requires-2
read-requires-2 c =
    subst (ArePartsOf c.args.input.now) (sym c.as_slice.ensures.value)
    (c.in_ok-parts.ensures.within c.args.input.now c.in_ok-own.ensures.within)
