use Rattle.std.proofs.Common.{◌-◌, get_or, ap, sym, subst, ◌∙◌, arith}
use Rattle.replay_messages.specs.Spelled.{IsReplyBytes}
use Rattle.std.specs.Prelude.{reverse, length}
use Rattle.replay_world.specs.Outcomes.{history_at, served_reply}
use Rattle.replay_messages.specs.Messages.{reply_told}
use Rattle.replay_world.proofs.ClientEvents.{quiet_answer}
use Rattle.replay_world.proofs.MessageEvents.{receives_nothing, receives_no_request, request_found, number_found, is_told, reply_bytes, receives_unawaited, receives_reply}
use Rattle.replay_world.proofs.passing.receive.Goals as goal

pub returns-in_default-clause-receives : goal.returns-in_default-clause-receives
returns-in_default-clause-receives c = receives_nothing c.args.server.now (reverse c.args.happened.now) c.args.event c.args.clients.now c.requires.kept c.in_default.ensures

pub returns-in_default-request_made-clause-receives : goal.returns-in_default-request_made-clause-receives
returns-in_default-request_made-clause-receives c =
    receives_no_request c.args.server.now (reverse c.args.happened.now) c.args.event c.in-Some.delivery.request c.in-Some.delivery.before c.in-Some.delivery.bytes.now c.requires.kept c.in-Some.ensures c.in_default-request_made.ensures

pub overflow_sub-asking : goal.overflow_sub-asking
overflow_sub-asking c =
    let is = number_found (length c.args.clients.now) (reverse c.args.happened.now) c.in-Some.delivery.request c.in-Some-request_made.asked.client c.in-Some-request_made.asked.request.now c.in-Some-request_made.asked.bytes.now c.requires.own c.in-Some-request_made.ensures in
    is.from_one

pub bounds-clients-asked : goal.bounds-clients-asked
bounds-clients-asked c =
    let is = number_found (length c.args.clients.now) (reverse c.args.happened.now) c.in-Some.delivery.request c.in-Some-request_made.asked.client c.in-Some-request_made.asked.request.now c.in-Some-request_made.asked.bytes.now c.requires.own c.in-Some-request_made.ensures in
    omega (arith, is.from_one, is.within)

pub returns-then-not-awaits-clause-receives : goal.returns-then-not-awaits-clause-receives
returns-then-not-awaits-clause-receives c =
    receives_unawaited c.args.server.now (reverse c.args.happened.now) c.args.event c.in-Some.delivery.request c.in-Some.delivery.before c.in-Some.delivery.bytes.now c.in-Some-request_made.asked.client c.in-Some-request_made.asked.request.now
    c.args.clients.now (get_or c.args.clients.now (c.in-Some-request_made.asked.client - 1) c.index-clients-asked.result)
    (is_told c.args.server.now (reverse c.args.happened.now) c.args.event c.in-Some.delivery.request c.in-Some.delivery.before c.in-Some.delivery.bytes.now c.in-Some-request_made.asked.client c.in-Some-request_made.asked.request.now c.in-Some-request_made.asked.bytes.now
    c.requires.kept c.in-Some.ensures c.in-Some-request_made.ensures)
    (number_found (length c.args.clients.now) (reverse c.args.happened.now) c.in-Some.delivery.request c.in-Some-request_made.asked.client c.in-Some-request_made.asked.request.now c.in-Some-request_made.asked.bytes.now c.requires.own c.in-Some-request_made.ensures)
    (ap (get_or c.args.clients.now (c.in-Some-request_made.asked.client - 1)) c.index-clients-asked.is)
    (sym c.awaits.ensures ∙ c.if-not-awaits.true)

pub read_reply-requires : goal.read_reply-requires
read_reply-requires c =
    let told = is_told c.args.server.now (reverse c.args.happened.now) c.args.event c.in-Some.delivery.request c.in-Some.delivery.before c.in-Some.delivery.bytes.now c.in-Some-request_made.asked.client c.in-Some-request_made.asked.request.now c.in-Some-request_made.asked.bytes.now
    c.requires.kept c.in-Some.ensures c.in-Some-request_made.ensures in
    subst IsReplyBytes (sym c.as_slice.ensures) (reply_bytes c.in-Some-request_made.asked.request.now (served_reply (history_at c.args.server.now c.in-Some.delivery.before) c.in-Some-request_made.asked.request.now) c.in-Some.delivery.bytes.now told.says)

pub answer-requires : goal.answer-requires
answer-requires c =
    let is = request_found c.args.server.now (reverse c.args.happened.now) c.in-Some.delivery.request c.in-Some-request_made.asked.client c.in-Some-request_made.asked.request.now c.in-Some-request_made.asked.bytes.now c.requires.kept c.in-Some-request_made.ensures in
    record { plain = is.plain; canonical = c.in_ok-message.ensures.canonical }

pub quiet-requires : goal.quiet-requires
quiet-requires c =
    let told = is_told c.args.server.now (reverse c.args.happened.now) c.args.event c.in-Some.delivery.request c.in-Some.delivery.before c.in-Some.delivery.bytes.now c.in-Some-request_made.asked.client c.in-Some-request_made.asked.request.now c.in-Some-request_made.asked.bytes.now
    c.requires.kept c.in-Some.ensures c.in-Some-request_made.ensures in
    let reply = served_reply (history_at c.args.server.now c.in-Some.delivery.before) c.in-Some-request_made.asked.request.now in
    quiet_answer c.in-Some-request_made.asked.request.now reply c.in_ok-outcome.outcome (get_or c.args.clients.now (c.in-Some-request_made.asked.client - 1) c.index-clients-asked.result) c.answer.new.self
    (c.in_ok-outcome.ensures.happens 0 reply (c.in_ok-message.ensures.read (reply_told 0 c.in-Some-request_made.asked.request.now reply) (told.says.sayable 0) (c.as_slice.ensures ∙ told.says.is_told 0)) told.says.answers)

pub returns-clause-receives : goal.returns-clause-receives
returns-clause-receives c =
    let told = is_told c.args.server.now (reverse c.args.happened.now) c.args.event c.in-Some.delivery.request c.in-Some.delivery.before c.in-Some.delivery.bytes.now c.in-Some-request_made.asked.client c.in-Some-request_made.asked.request.now c.in-Some-request_made.asked.bytes.now
    c.requires.kept c.in-Some.ensures c.in-Some-request_made.ensures in
    let reply = served_reply (history_at c.args.server.now c.in-Some.delivery.before) c.in-Some-request_made.asked.request.now in
    receives_reply c.args.server.now (reverse c.args.happened.now) c.args.event c.in-Some.delivery.request c.in-Some.delivery.before c.in-Some.delivery.bytes.now c.in-Some-request_made.asked.client c.in-Some-request_made.asked.request.now
    c.args.clients.now (get_or c.args.clients.now (c.in-Some-request_made.asked.client - 1) c.index-clients-asked.result) c.answer.new.self c.in_ok-outcome.outcome c.quiet.result told
    (number_found (length c.args.clients.now) (reverse c.args.happened.now) c.in-Some.delivery.request c.in-Some-request_made.asked.client c.in-Some-request_made.asked.request.now c.in-Some-request_made.asked.bytes.now c.requires.own c.in-Some-request_made.ensures)
    (ap (get_or c.args.clients.now (c.in-Some-request_made.asked.client - 1)) c.index-clients-asked.is)
    (sym c.awaits.ensures ∙ c.if-not-awaits.false)
    (c.in_ok-outcome.ensures.happens 0 reply (c.in_ok-message.ensures.read (reply_told 0 c.in-Some-request_made.asked.request.now reply) (told.says.sayable 0) (c.as_slice.ensures ∙ told.says.is_told 0)) told.says.answers)
    c.quiet.ensures.quiet c.quiet.ensures.same
