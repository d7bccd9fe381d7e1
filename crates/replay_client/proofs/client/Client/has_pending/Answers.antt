use Rattle.replay_client.proofs.ReadingLemmas.{no_pending}
use Rattle.replay_client.proofs.client.Client.has_pending.Goals as goal

pub returns : goal.returns
returns c = rw (← c.self.view_is) (no_pending c.self.inside c.args.kind)
