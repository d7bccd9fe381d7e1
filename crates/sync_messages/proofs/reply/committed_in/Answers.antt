use Rattle.std.proofs.Common.{subst, sym}
use Rattle.message_fields.specs.Fields.{ArePartsOf}
use Rattle.sync_messages.proofs.reply.committed_in.Goals as goal

pub answers_in-requires : goal.answers_in-requires
answers_in-requires c =
    subst (ArePartsOf c.args.input.now) (sym c.as_slice.ensures.value)
    (c.in_ok-groups.ensures.within c.args.input.now c.in_ok-message.ensures.within)
