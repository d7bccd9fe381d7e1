use Rattle.std.proofs.Common.{sym, subst}
use Rattle.std.specs.Prelude.{reverse}
use Rattle.replay_world.specs.Outcomes.{IsRequest}
use Rattle.replay_world.proofs.MessageEvents.{delivers_nothing, request_found, delivers_reply}
use Rattle.replay_world.proofs.passing.deliver.Goals as goal

pub returns-in_default-clause-delivers : goal.returns-in_default-clause-delivers
returns-in_default-clause-delivers c = delivers_nothing (reverse c.args.happened.now) c.args.event c.args.server.now c.requires c.in_default.ensures

pub deliver-requires : goal.deliver-requires
deliver-requires c =
    subst (IsRequest c.in-Some.asked.client c.in-Some.asked.request.now) (sym c.as_slice.ensures)
    (request_found c.args.server.now (reverse c.args.happened.now) c.args.event c.in-Some.asked.client c.in-Some.asked.request.now c.in-Some.asked.bytes.now c.requires c.in-Some.ensures)

pub returns-clause-delivers : goal.returns-clause-delivers
returns-clause-delivers c =
    delivers_reply (reverse c.args.happened.now) c.args.event c.args.server.now c.deliver.new.self c.version-before.result c.in-Some.asked.client c.in-Some.asked.request.now c.in-Some.asked.bytes.now c.in_ok-bytes.bytes
    c.requires c.in-Some.ensures c.version-before.ensures c.in_ok-bytes.ensures.history c.in_ok-bytes.ensures.reply
