use Rattle.std.proofs.Common.{subst, sym}
use Rattle.message_fields.specs.Fields.{ArePartsOf}
use Rattle.message_fields.proofs.message.Message.inner.Goals as goal

pub read-requires : goal.read-requires
read-requires c =
    subst (ArePartsOf c.args.input.now) (sym c.as_slice.ensures.value) (c.in_ok-parts.ensures.within c.args.input.now c.requires)
