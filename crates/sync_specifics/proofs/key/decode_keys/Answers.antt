use Rattle.std.proofs.Common.{subst, sym}
use Rattle.message_fields.specs.Fields.{ArePartsOf}
use Rattle.sync_specifics.proofs.key.decode_keys.Goals as goal

pub keys_in-requires : goal.keys_in-requires
keys_in-requires c =
    subst (ArePartsOf c.args.bytes.now) (sym c.as_slice.ensures.value)
    (c.in_ok-parts.ensures.within c.args.bytes.now c.in_ok-bag.ensures.within)
