use Rattle.nigori.proofs.Sealed.{unsealing_undoes_sealing}
use Rattle.nigori.proofs.laws.unsealing_undoes_sealing.Goals as goal

pub returns : goal.returns
returns c = unsealing_undoes_sealing c.decryption_undoes_encryption.ensures
