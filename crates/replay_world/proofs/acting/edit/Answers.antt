use Rattle.std.proofs.Common.{◌-◌, get_or, ap}
use Rattle.sync_model.specs.Changes.{change_effect}
use Rattle.run_setting.specs.Hashed.{hashed}
use Rattle.replay_world.proofs.ClientEvents.{acts_quietly, quiet_change}
use Rattle.replay_world.proofs.acting.edit.Goals as goal

pub quiet-requires : goal.quiet-requires
quiet-requires c =
    quiet_change hashed c.args.number c.args.edit.now c.in_ok-outcome.outcome (get_or c.args.clients.now (c.args.number - 1) c.index-clients-number.result) c.edit.new.self c.args.settlements.now.items c.edit.new.settlements.items c.in_ok-outcome.ensures.happens

pub returns-clause-acts : goal.returns-clause-acts
returns-clause-acts c =
    acts_quietly c.args.number (change_effect hashed c.args.number c.args.edit.now) c.args.clients.now c.args.settlements.now.items c.edit.new.settlements.items c.in_ok-outcome.outcome c.quiet.result (get_or c.args.clients.now (c.args.number - 1) c.index-clients-number.result) c.edit.new.self
    c.requires.number (ap (get_or c.args.clients.now (c.args.number - 1)) c.index-clients-number.is) c.in_ok-outcome.ensures.happens c.quiet.ensures.quiet c.quiet.ensures.same
