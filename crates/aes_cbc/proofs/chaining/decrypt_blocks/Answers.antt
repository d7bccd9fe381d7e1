use Rattle.std.proofs.Common.{◌++◌, ap}
use Rattle.std.specs.List.{concat}
use Rattle.aes_cbc.specs.Chaining.{decrypted_blocks}
use Rattle.aes_cbc.proofs.ChainSteps.{decrypted_more, decrypted_all}
use Rattle.aes_cbc.proofs.chaining.decrypt_blocks.Goals as goal

pub chain-init : goal.chain-init
chain-init c = ap (λ t. t ++ concat (decrypted_blocks c.args.schedule.now c.args.iv.now c.args.blocks.now)) c.in_ok-text.ensures.items

pub chain-preserved : goal.chain-preserved
chain-preserved c =
    decrypted_more c.args.schedule.now c.args.iv.now c.args.blocks.now c.chain.text.items c.chain.before c.chain.block-index c.decrypt_block.result
    c.sum_of_blocks.result c.extend_from_slice.new.self.items c.chain-test.true c.chain.invariant c.decrypt_block.ensures c.sum_of_blocks.ensures
    c.in_ok-extend_from_slice.ensures.items

pub returns : goal.returns
returns c =
    decrypted_all c.args.schedule.now c.args.iv.now c.args.blocks.now c.chain.text.items c.chain.before c.chain.block-index c.args.end.now
    c.extend_from_slice-2.new.self.items c.chain-test.false c.chain.invariant c.in_ok-extend_from_slice-2.ensures.items
