use Rattle.std.proofs.Common.{ap}
use Rattle.loopback_server.specs.Servers.{Served}
use Rattle.replay_world.proofs.Served.{counted_more, taken_back}
use Rattle.replay_world.proofs.run_server.handle.Goals as goal

pub overflow_sub-stored : goal.overflow_sub-stored
overflow_sub-stored c =
    counted_more c.args.server.now.birthday c.args.server.now.history c.handle.new.self.history c.args.message.now c.counter-before.result c.counter.result
    c.in_ok-reply.ensures.history c.counter-before.ensures c.counter.ensures

pub returns-in_default-clause-err : goal.returns-in_default-clause-err
returns-in_default-clause-err c =
    taken_back c.args.server.now.birthday c.args.server.now.history c.handle.new.self.history c.take_back.new.self.history c.args.message.now c.counter-before.result c.counter.result
    c.in_ok-reply.ensures.history c.counter-before.ensures c.counter.ensures (ap (λ (server : Served). server.history) c.take_back.ensures)
