use Rattle.std.proofs.Common.{take, get_or, subst}
use Rattle.wire_format.specs.Spellings.{bytes_field}
use Rattle.sync_messages.specs.declared.message.Entity.{Entity}
use Rattle.sync_messages.specs.Lengths.{IsLength}
use Rattle.sync_messages.specs.Spellings.{entity_bytes, entities_bytes}
use Rattle.sync_messages.proofs.LengthLemmas.{one_longer}
use Rattle.sync_messages.proofs.entity_len.entities_len.Goals as goal

pub loop-entity-preserved : goal.loop-entity-preserved
loop-entity-preserved c =
    let entities = c.args.entities.now in
    let index = c.loop-entity.entity-index in
    let entity = get_or entities index c.entity-item.result in
    let long = subst (λ found. IsLength c.entity_len.result (entity_bytes found)) c.entity-item.is c.entity_len.ensures in
    one_longer (λ (entity : Entity). bytes_field c.args.number (entity_bytes entity)) entities index c.entity-item.result
    c.len_of_both-total.result c.loop-entity-test.true
    (c.len_of_both-total.ensures (entities_bytes c.args.number (take index entities)) (bytes_field c.args.number (entity_bytes entity))
    c.loop-entity.invariant (c.len_around.ensures (entity_bytes entity) long))
