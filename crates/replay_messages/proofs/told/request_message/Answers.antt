use Rattle.std.proofs.Common.{sym, subst}
use Rattle.sync_messages.specs.Laws.{IsSayableRequest}
use Rattle.replay_messages.proofs.SayableReplies.{call_sayable}
use Rattle.replay_messages.proofs.told.request_message.Goals as goal

pub returns-clause-sayable : goal.returns-clause-sayable
returns-clause-sayable c =
    subst IsSayableRequest (sym (c.in_ok-told_call.ensures 0)) (call_sayable 0 c.args.client c.args.request.now.call c.requires)
