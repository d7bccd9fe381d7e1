use Rattle.replay_client.proofs.ReadingLemmas.{none_pending}
use Rattle.replay_client.proofs.client.Client.pending_count.Goals as goal

pub returns : goal.returns
returns c = rw (← c.self.view_is) (none_pending c.self.inside c.args.kind)
