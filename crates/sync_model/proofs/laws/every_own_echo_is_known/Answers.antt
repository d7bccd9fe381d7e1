use Rattle.sync_model.proofs.EchoLaw.{world_of-EveryOwnEchoIsKnown}
use Rattle.sync_model.proofs.EchoWorlds.{world_of-EveryOfferIsKept}
use Rattle.sync_model.proofs.laws.every_own_echo_is_known.Goals as goal

pub returns : goal.returns
returns c = record { law = world_of-EveryOwnEchoIsKnown; offers = world_of-EveryOfferIsKept }
