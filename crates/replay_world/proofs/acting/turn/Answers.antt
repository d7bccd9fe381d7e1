use Rattle.std.proofs.Common.{◌-◌, get_or, ap}
use Rattle.sync_model.specs.Receiving.{turn_effect}
use Rattle.run_setting.specs.Hashed.{hashed}
use Rattle.replay_world.proofs.ClientEvents.{acts_quietly, quiet_turn}
use Rattle.replay_world.proofs.acting.turn.Goals as goal

pub quiet-requires : goal.quiet-requires
quiet-requires c =
    quiet_turn hashed c.args.number c.args.kind c.in_ok-outcome.outcome (get_or c.args.clients.now (c.args.number - 1) c.index-clients-number.result) c.turn.new.self c.args.settlements.now.items c.turn.new.settlements.items c.in_ok-outcome.ensures.happens

pub returns-clause-acts : goal.returns-clause-acts
returns-clause-acts c =
    acts_quietly c.args.number (turn_effect hashed c.args.kind) c.args.clients.now c.args.settlements.now.items c.turn.new.settlements.items c.in_ok-outcome.outcome c.quiet.result (get_or c.args.clients.now (c.args.number - 1) c.index-clients-number.result) c.turn.new.self
    c.requires.number (ap (get_or c.args.clients.now (c.args.number - 1)) c.index-clients-number.is) c.in_ok-outcome.ensures.happens c.quiet.ensures.quiet c.quiet.ensures.same
