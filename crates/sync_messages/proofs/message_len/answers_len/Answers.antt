use Rattle.std.proofs.Common.{take, get_or, subst}
use Rattle.wire_format.specs.Spellings.{group_field}
use Rattle.sync_messages.specs.declared.message.EntryAnswer.{EntryAnswer}
use Rattle.sync_messages.specs.Lengths.{IsLength}
use Rattle.sync_messages.specs.Spellings.{answer_bytes, answers_bytes}
use Rattle.sync_messages.proofs.LengthLemmas.{one_longer}
use Rattle.sync_messages.proofs.message_len.answers_len.Goals as goal

pub loop-answer-preserved : goal.loop-answer-preserved
loop-answer-preserved c =
    let answers = c.args.answers.now in
    let index = c.loop-answer.answer-index in
    let answer = get_or answers index c.answer-item.result in
    let long = subst (λ found. IsLength c.answer_len.result (answer_bytes found)) c.answer-item.is c.answer_len.ensures in
    one_longer (λ (answer : EntryAnswer). group_field 1 (answer_bytes answer)) answers index c.answer-item.result
    c.len_of_both-total.result c.loop-answer-test.true
    (c.len_of_both-total.ensures (answers_bytes (take index answers)) (group_field 1 (answer_bytes answer)) c.loop-answer.invariant
    (c.len_of_group.ensures (answer_bytes answer) long))
