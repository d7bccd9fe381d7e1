use Rattle.std.proofs.Common.{subst, sym}
use Rattle.message_fields.specs.Fields.{ArePartsOf}
use Rattle.message_fields.proofs.message.Message.inner_whole.Goals as goal

pub read_whole-requires : goal.read_whole-requires
read_whole-requires c =
    subst (ArePartsOf c.args.input.now) (sym c.as_slice.ensures.value) (c.in_ok-parts.ensures.within c.args.input.now c.requires)
