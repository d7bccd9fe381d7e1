use Rattle.replay_messages.proofs.ToldBack.{replies_agree, histories_agree}
use Rattle.replay_messages.proofs.PlainEntries.{histories_stay_plain, replies_are_plain}
use Rattle.replay_messages.proofs.SayableReplies.{replies_are_sayable}
use Rattle.replay_messages.proofs.laws.server_agrees.Goals as goal

pub returns-clause-replies : goal.returns-clause-replies
returns-clause-replies c = replies_agree

pub returns-clause-histories : goal.returns-clause-histories
returns-clause-histories c = histories_agree

pub returns-clause-plain_histories : goal.returns-clause-plain_histories
returns-clause-plain_histories c = histories_stay_plain

pub returns-clause-plain_replies : goal.returns-clause-plain_replies
returns-clause-plain_replies c = replies_are_plain

pub returns-clause-sayable : goal.returns-clause-sayable
returns-clause-sayable c = replies_are_sayable
