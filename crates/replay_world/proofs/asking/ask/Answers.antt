use Rattle.std.proofs.Common.{◌-◌, get_or, ap, ◌∙◌}
use Rattle.sync_model.specs.Sending.{ask_effect}
use Rattle.replay_world.proofs.ClientEvents.{asks_is, ask_asks, back_is, same_clients}
use Rattle.replay_world.proofs.Results.{ok_with, err_then}
use Rattle.replay_world.proofs.asking.ask.Goals as goal

pub returns-clause-asks : goal.returns-clause-asks
returns-clause-asks c =
    ok_with c.send.result c.send.ensures.kept c.send.ensures.sent
    (λ happened same sent. asks_is c.args.number (ask_effect c.args.number c.args.event) c.args.clients.now c.in_ok-outcome.outcome happened (get_or c.args.clients.now (c.args.number - 1) c.index-clients-number.result) c.ask.new.self c.send.new.client
    c.requires.number (ap (get_or c.args.clients.now (c.args.number - 1)) c.index-clients-number.is) c.in_ok-outcome.ensures.happens (ask_asks c.args.number c.args.event (get_or c.args.clients.now (c.args.number - 1) c.index-clients-number.result)) same sent)

pub returns-clause-clients : goal.returns-clause-clients
returns-clause-clients c =
    err_then c.send.result
    (λ back. same_clients c.args.clients.now (c.args.number - 1) (get_or c.args.clients.now (c.args.number - 1) c.index-clients-number.result) c.send.new.client (ap (get_or c.args.clients.now (c.args.number - 1)) c.index-clients-number.is)
    (back ∙ back_is c.args.number (ask_effect c.args.number c.args.event (get_or c.args.clients.now (c.args.number - 1) c.index-clients-number.result)) c.in_ok-outcome.outcome (get_or c.args.clients.now (c.args.number - 1) c.index-clients-number.result) c.ask.new.self (ask_asks c.args.number c.args.event (get_or c.args.clients.now (c.args.number - 1) c.index-clients-number.result)) c.in_ok-outcome.ensures.happens))
    c.send.ensures.back
