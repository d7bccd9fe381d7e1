use Rattle.aes_cbc.proofs.ChainingLemmas.{decryption_undoes_encryption}
use Rattle.aes_cbc.proofs.laws.decryption_undoes_encryption.Goals as goal

pub returns : goal.returns
returns c = decryption_undoes_encryption
