use Rattle.aes_cbc.proofs.CipherLemmas.{cipher_undoes_inverse_cipher}
use Rattle.aes_cbc.proofs.laws.cipher_undoes_inverse_cipher.Goals as goal

pub returns : goal.returns
returns c = cipher_undoes_inverse_cipher
