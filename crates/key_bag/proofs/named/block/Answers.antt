use Rattle.aes_cbc.proofs.StepLemmas.{block_from}
use Rattle.key_bag.proofs.named.block.Goals as goal

pub returns-clause-is_block : goal.returns-clause-is_block
returns-clause-is_block c = block_from c.args.part.now c.told-part c.fits-part
