-- No bytes are a canonical extra.
use Rattle.std.proofs.Common.{List, [], refl}
use Rattle.message_fields.specs.declared.field.Known.{Known}
use Rattle.message_fields.specs.Unknown.{IsCanonicalExtra}

pub no_extra : (known : List Known) → IsCanonicalExtra known []
no_extra known = record { fields = []; are_fields = refl; is_extra = refl }
