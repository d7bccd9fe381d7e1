use Rattle.key_bag.proofs.LawLemmas.{sealed_texts_are_unsealed}
use Rattle.key_bag.proofs.laws.sealed_texts_are_unsealed.Goals as goal

pub returns : goal.returns
returns c = sealed_texts_are_unsealed c.unsealing_undoes_sealing.ensures
