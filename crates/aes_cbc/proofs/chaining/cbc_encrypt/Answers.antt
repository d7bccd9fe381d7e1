use Rattle.std.proofs.Common.{◌++◌, ap, ◌∙◌}
use Rattle.std.specs.List.{concat}
use Rattle.aes_cbc.specs.Cipher.{cipher}
use Rattle.aes_cbc.specs.Chaining.{encrypted_blocks}
use Rattle.aes_cbc.proofs.ChainSteps.{encrypted_more, encrypted_from}
use Rattle.aes_cbc.proofs.chaining.cbc_encrypt.Goals as goal

pub chain-init : goal.chain-init
chain-init c = λ rest. ap (λ t. t ++ concat (encrypted_blocks c.args.schedule.now c.args.iv.now (c.as_chunks.result.0.now ++ rest))) c.in_ok-cipher.ensures.items

pub chain-preserved : goal.chain-preserved
chain-preserved c =
    encrypted_more c.args.schedule.now c.args.iv.now c.as_chunks.result.0.now c.chain.cipher.items c.chain.chained c.chain.block-index
    c.encrypt_block-chained.result c.extend_from_slice.new.self.items c.chain-test.true c.chain.invariant (c.encrypt_block-chained.ensures ∙ ap (cipher c.args.schedule.now) c.sum_of_blocks.ensures) c.in_ok-extend_from_slice.ensures.items

pub returns : goal.returns
returns c =
    encrypted_from c.args.schedule.now c.args.iv.now c.args.plain.now c.as_chunks.result.0.now c.as_chunks.result.1.now c.chain.cipher.items
    c.chain.chained c.chain.block-index c.padded_block.result c.sum_of_blocks-last.result c.encrypt_block.result c.extend_from_slice-2.new.self.items
    c.as_chunks.ensures.front c.as_chunks.ensures.back c.chain-test.false c.chain.invariant c.padded_block.ensures c.sum_of_blocks-last.ensures
    c.encrypt_block.ensures c.in_ok-extend_from_slice-2.ensures.items
