use Rattle.aes_cbc.proofs.PaddingLemmas.{padded_block_from}
use Rattle.aes_cbc.proofs.padding.padded_block.Goals as goal

pub returns : goal.returns
returns c = padded_block_from c.args.rest.now c.copy_from_slice.new.self c.requires c.copy_from_slice.ensures.after
