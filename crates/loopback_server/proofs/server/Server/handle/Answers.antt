use Rattle.std.proofs.Common.{ap}
use Rattle.replay_messages.specs.Replies.{call_in}
use Rattle.loopback_server.specs.Stores.{history_of}
use Rattle.loopback_server.proofs.Based.{based_after}
use Rattle.loopback_server.proofs.CanonicalExtras.{either_canonical}
use Rattle.loopback_server.proofs.server.Server.handle.Goals as goal

pub invariant_of-self-2 : goal.invariant_of-self-2
invariant_of-self-2 c = (
  c.answer.ensures.indexed,
  either_canonical c.answer.result c.args.request.now.request (history_of c.self.inside.store) (history_of c.answer.new.store) c.self.invariant.1 c.requires
      c.answer.ensures.history c.answer.ensures.err,
)

pub returns-clause-versions : goal.returns-clause-versions
returns-clause-versions c = λ based.
    based_after c.args.self.now.history (history_of c.self.inside.store) (history_of c.answer.new.store) (call_in c.args.request.now.request)
    (ap (λ served. served.history) c.self.view_is) c.in_ok-reply.ensures.history based
