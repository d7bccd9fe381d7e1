use Rattle.std.proofs.Common.{◌++◌}
use Rattle.std.specs.Int.{w64, cast_unsigned}
use Rattle.message_fields.specs.Written.{bytes_unless_empty, varint_unless_zero}
use Rattle.sync_messages.specs.Spellings.{flag_if_true, hash_if_some, specifics_if_some}
use Rattle.sync_messages.proofs.entity_len.entity_len.Goals as goal

pub returns : goal.returns
returns c =
    let entity = c.args.entity.now in
    let id = bytes_unless_empty 1 entity.id in
    let version = varint_unless_zero 4 (cast_unsigned w64 entity.version) in
    let deleted = flag_if_true 18 entity.deleted in
    let specifics = specifics_if_some entity.specifics in
    let hash = hash_if_some entity.hash in
    c.len_of_both-3.ensures (id ++ version ++ deleted ++ specifics) hash
    (c.len_of_both-2.ensures (id ++ version ++ deleted) specifics
    (c.len_of_both-plain.ensures (id ++ version) deleted
    (c.len_of_both.ensures id version c.len_unless_empty-id.ensures c.version_len-version.ensures) c.flag_len-deleted.ensures)
    c.specifics_field_len-specifics.ensures) c.hash_len-hash.ensures
