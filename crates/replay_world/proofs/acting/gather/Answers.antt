use Rattle.std.proofs.Common.{◌-◌, get_or, ap}
use Rattle.sync_model.specs.Sending.{gather_effect}
use Rattle.run_setting.specs.Hashed.{hashed}
use Rattle.replay_world.proofs.ClientEvents.{acts_quietly, quiet_gather}
use Rattle.replay_world.proofs.acting.gather.Goals as goal

pub quiet-requires : goal.quiet-requires
quiet-requires c = quiet_gather hashed c.args.number c.args.kind c.in_ok-outcome.outcome (get_or c.args.clients.now (c.args.number - 1) c.index-clients-number.result) c.gather.new.self (c.in_ok-outcome.ensures.happens c.args.number)

pub returns-clause-acts : goal.returns-clause-acts
returns-clause-acts c =
    λ settled. acts_quietly c.args.number (gather_effect hashed c.args.number c.args.kind) c.args.clients.now settled settled c.in_ok-outcome.outcome c.quiet.result (get_or c.args.clients.now (c.args.number - 1) c.index-clients-number.result) c.gather.new.self
    c.requires.number (ap (get_or c.args.clients.now (c.args.number - 1)) c.index-clients-number.is) (c.in_ok-outcome.ensures.happens c.args.number c.args.number settled) c.quiet.ensures.quiet c.quiet.ensures.same
