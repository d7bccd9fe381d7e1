use Rattle.std.proofs.Common.{[], ◌∷◌, ◌++◌, map, sym, ap, ◌∙◌}
use Rattle.std.proofs.lemmas.List.{drop_more, map-append}
use Rattle.message_fields.specs.Faults.{first_of}
use Rattle.sync_messages.specs.Entities.{AreEntityFields, entity_fault, entity_of}
use Rattle.sync_messages.proofs.ListLemmas.{one_more, all_read}
use Rattle.sync_messages.proofs.entity.entities_in.Goals as goal

pub loop-part-preserved : goal.loop-part-preserved
loop-part-preserved c =
    one_more (AreEntityFields c.args.input.now) entity_fault (map (entity_of c.args.input.now)) c.args.parts.now c.loop-part.part-index _
    c.in_ok-fields.fields c.loop-part.fault c.first_of-fault.result c.loop-part.entities.items c.push.new.self.items
    (drop_more c.args.parts.now c.loop-part.part-index _ c.loop-part-test.true) c.loop-part.invariant c.in_ok-fields.ensures.fields
    (c.first_of-fault.ensures ∙ ap (first_of c.loop-part.fault) c.fault.ensures)
    (λ things same. c.in_ok-push.ensures.items ∙ ap (λ entity. c.loop-part.entities.items ++ entity ∷ []) c.in_ok-value.ensures
    ∙ ap (λ front. front ++ entity_of c.args.input.now c.in_ok-fields.fields ∷ []) same
    ∙ sym (map-append (entity_of c.args.input.now) things (c.in_ok-fields.fields ∷ [])))

pub returns : goal.returns
returns c =
    let so_far = c.loop-part.invariant in
    record {
      fields = so_far.things;
      are_fields = all_read (AreEntityFields c.args.input.now) entity_fault (map (entity_of c.args.input.now)) c.args.parts.now
          c.loop-part.part-index c.loop-part.fault c.loop-part.entities.items c.loop-part-test.false so_far;
      is_fault = so_far.is_fault;
      are_entities = so_far.are_values;
    }
