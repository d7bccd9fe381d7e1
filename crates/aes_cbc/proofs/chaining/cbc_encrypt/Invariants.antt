use Rattle.aes_cbc.proofs.ChainSteps.{EncryptedAhead}
use Rattle.aes_cbc.proofs.chaining.cbc_encrypt.Given as goal

abbrev pub invariant-chain : goal.invariant-chain
invariant-chain l = EncryptedAhead l.schedule l.iv l.blocks l.cipher.items l.chained l.block-index
