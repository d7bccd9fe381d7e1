use Rattle.std.proofs.Common.{◌+◌, reverse, length}
use Rattle.std.proofs.lemmas.Result.{IfOk-weaker}
use Rattle.sync_model.specs.Changes.{change_effect}
use Rattle.sync_model.specs.Receiving.{turn_effect, post_effect}
use Rattle.sync_model.specs.Sending.{gather_effect, ask_effect, offer_effect}
use Rattle.run_setting.specs.Hashed.{hashed}
use Rattle.replay_world.specs.Steps.{Acts, ActsAlone, Asks, Delivers, Receives}
use Rattle.replay_world.proofs.StepLemmas.{edit_steps, turn_steps, gather_steps, post_steps, ask_steps, offer_steps, deliver_steps, answer_steps}
use Rattle.replay_world.proofs.step.happen.Goals as goal

pub returns-in-Edit-clause-steps : goal.returns-in-Edit-clause-steps
returns-in-Edit-clause-steps c =
    IfOk-weaker c.edit.result (Acts c.in-Edit.client (change_effect hashed c.in-Edit.client c.in-Edit.change) c.args.clients.now c.edit.new.clients c.args.settlements.now.items c.edit.new.settlements.items) _
    (λ happened acts. edit_steps c.args.event.now (reverse c.args.happened.now) c.args.server.now c.args.clients.now c.edit.new.clients c.args.settlements.now.items c.edit.new.settlements.items happened c.in-Edit.client c.in-Edit.change c.requires.kept c.in-Edit.is acts) c.edit.ensures.acts

pub returns-in-Turn-clause-steps : goal.returns-in-Turn-clause-steps
returns-in-Turn-clause-steps c =
    IfOk-weaker c.turn.result (Acts c.in-Turn.client (turn_effect hashed c.in-Turn.kind) c.args.clients.now c.turn.new.clients c.args.settlements.now.items c.turn.new.settlements.items) _
    (λ happened acts. turn_steps c.args.event.now (reverse c.args.happened.now) c.args.server.now c.args.clients.now c.turn.new.clients c.args.settlements.now.items c.turn.new.settlements.items happened c.in-Turn.client c.in-Turn.kind c.requires.kept c.in-Turn.is acts) c.turn.ensures.acts

pub returns-in-Gather-clause-steps : goal.returns-in-Gather-clause-steps
returns-in-Gather-clause-steps c =
    IfOk-weaker c.gather.result (ActsAlone c.in-Gather.client (gather_effect hashed c.in-Gather.client c.in-Gather.kind) c.args.clients.now c.gather.new.clients) _
    (λ happened acts. gather_steps c.args.event.now (reverse c.args.happened.now) c.args.server.now c.args.clients.now c.gather.new.clients c.args.settlements.now.items happened c.in-Gather.client c.in-Gather.kind c.requires.kept c.in-Gather.is acts) c.gather.ensures.acts

pub returns-in-Post-clause-steps : goal.returns-in-Post-clause-steps
returns-in-Post-clause-steps c =
    IfOk-weaker c.post.result (ActsAlone c.in-Post.client (post_effect hashed c.in-Post.kind) c.args.clients.now c.post.new.clients) _
    (λ happened acts. post_steps c.args.event.now (reverse c.args.happened.now) c.args.server.now c.args.clients.now c.post.new.clients c.args.settlements.now.items happened c.in-Post.client c.in-Post.kind c.requires.kept c.in-Post.is acts) c.post.ensures.acts

pub returns-in-Ask-clause-steps : goal.returns-in-Ask-clause-steps
returns-in-Ask-clause-steps c =
    IfOk-weaker c.ask.result (Asks c.in-Ask.client (ask_effect c.in-Ask.client (length c.args.happened.now + 1)) c.args.clients.now c.ask.new.clients) _
    (λ happened acts. ask_steps c.args.event.now c.args.happened.now c.args.server.now c.args.clients.now c.ask.new.clients c.args.settlements.now.items happened c.in-Ask.client c.requires.kept c.in-Ask.is acts) c.ask.ensures.asks

pub returns-in-Offer-clause-steps : goal.returns-in-Offer-clause-steps
returns-in-Offer-clause-steps c =
    IfOk-weaker c.offer.result (Asks c.in-Offer.client (offer_effect c.in-Offer.client (length c.args.happened.now + 1)) c.args.clients.now c.offer.new.clients) _
    (λ happened acts. offer_steps c.args.event.now c.args.happened.now c.args.server.now c.args.clients.now c.offer.new.clients c.args.settlements.now.items happened c.in-Offer.client c.requires.kept c.in-Offer.is acts) c.offer.ensures.asks

pub returns-in-Deliver-clause-steps : goal.returns-in-Deliver-clause-steps
returns-in-Deliver-clause-steps c =
    IfOk-weaker c.deliver.result (Delivers (reverse c.args.happened.now) c.in-Deliver.event c.args.server.now c.deliver.new.server) _
    (λ happened acts. deliver_steps c.args.event.now (reverse c.args.happened.now) c.args.server.now c.deliver.new.server c.args.clients.now c.args.settlements.now.items happened c.in-Deliver.event c.in-Deliver.is acts) c.deliver.ensures.delivers

pub returns-in-Answer-clause-steps : goal.returns-in-Answer-clause-steps
returns-in-Answer-clause-steps c =
    IfOk-weaker c.receive.result (Receives c.args.server.now (reverse c.args.happened.now) c.in-Answer.event c.args.clients.now c.receive.new.clients) _
    (λ happened acts. answer_steps c.args.event.now (reverse c.args.happened.now) c.args.server.now c.args.clients.now c.receive.new.clients c.args.settlements.now.items happened c.in-Answer.event c.requires.kept c.in-Answer.is acts) c.receive.ensures.receives
