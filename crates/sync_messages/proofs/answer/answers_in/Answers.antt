use Rattle.std.proofs.Common.{[], ◌∷◌, ◌++◌, map, sym, ap, ◌∙◌}
use Rattle.std.proofs.lemmas.List.{drop_more, map-append}
use Rattle.message_fields.specs.Readings.{IsReading}
use Rattle.message_fields.specs.Faults.{first_of}
use Rattle.sync_messages.specs.Answers.{answer_fields, answer_fault, answer_of}
use Rattle.sync_messages.proofs.ListLemmas.{one_more, all_read}
use Rattle.sync_messages.proofs.answer.answers_in.Goals as goal

pub loop-part-preserved : goal.loop-part-preserved
loop-part-preserved c =
    one_more (λ part message. IsReading answer_fields c.args.input.now (part ∷ []) message) answer_fault (map (answer_of c.args.input.now))
    c.args.parts.now c.loop-part.part-index _ c.in_ok-message.message c.loop-part.fault c.first_of-fault.result c.loop-part.answers.items
    c.push.new.self.items (drop_more c.args.parts.now c.loop-part.part-index _ c.loop-part-test.true) c.loop-part.invariant
    c.in_ok-message.ensures.reading (c.first_of-fault.ensures ∙ ap (first_of c.loop-part.fault) c.answer_fault.ensures)
    (λ things same. c.in_ok-push.ensures.items ∙ ap (λ answer. c.loop-part.answers.items ++ answer ∷ []) c.in_ok-answer_in.ensures
    ∙ ap (λ front. front ++ answer_of c.args.input.now c.in_ok-message.message ∷ []) same
    ∙ sym (map-append (answer_of c.args.input.now) things (c.in_ok-message.message ∷ [])))

pub returns : goal.returns
returns c =
    let so_far = c.loop-part.invariant in
    record {
      messages = so_far.things;
      are_readings = all_read (λ part message. IsReading answer_fields c.args.input.now (part ∷ []) message) answer_fault
          (map (answer_of c.args.input.now)) c.args.parts.now c.loop-part.part-index c.loop-part.fault c.loop-part.answers.items
          c.loop-part-test.false so_far;
      is_fault = so_far.is_fault;
      are_answers = so_far.are_values;
    }
