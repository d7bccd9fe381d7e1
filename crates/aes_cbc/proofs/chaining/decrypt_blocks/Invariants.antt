use Rattle.aes_cbc.proofs.ChainSteps.{DecryptedAhead}
use Rattle.aes_cbc.proofs.chaining.decrypt_blocks.Given as goal

abbrev pub invariant-chain : goal.invariant-chain
invariant-chain l = DecryptedAhead l.schedule l.iv l.blocks l.text.items l.before l.block-index
