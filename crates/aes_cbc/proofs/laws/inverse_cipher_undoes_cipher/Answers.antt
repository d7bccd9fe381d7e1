use Rattle.aes_cbc.proofs.CipherLemmas.{inverse_cipher_undoes_cipher}
use Rattle.aes_cbc.proofs.laws.inverse_cipher_undoes_cipher.Goals as goal

pub returns : goal.returns
returns c = inverse_cipher_undoes_cipher
