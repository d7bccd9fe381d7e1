use Rattle.std.proofs.Common.{◌≡◌, ℕ, ◌+◌, ◌*◌, ◌-◌, ◌<◌, List, length, min, lit<, take, ap, sym, ◌∙◌, arith, length-append}
use Rattle.std.proofs.lemmas.Grind.{div_ceil_times}
use Rattle.key_derivation.specs.Pbkdf2.{block_of, blocks}
use Rattle.key_derivation.proofs.Blocks.{length-block_of, blocks_more, filled_more, filled_all}
use Rattle.key_derivation.proofs.pbkdf.pbkdf2.Goals as goal

pub loop-index-preserved : goal.loop-index-preserved
loop-index-preserved c =
    let index : ℕ = c.loop-index.index in
    let total : ℕ = length c.args.out.now in
    let before : List ℕ = blocks c.args.pass.now c.args.salt.now c.args.turns index in
    let block : List ℕ = block_of c.args.pass.now c.args.salt.now c.args.turns (index + 1) in
    let is_block : c.derived_block-block.result ≡ block = c.derived_block-block.ensures c.args.pass.now c.new-keyed.ensures in
    let long_block : length block ≡ 20 = length-block_of c.args.pass.now c.args.salt.now c.args.turns (index + 1) in
    let inside : 20 * index < total =
    omega (arith, div_ceil_times total 20 (lit< tt), c.div_ceil-count.ensures, c.loop-index-test.true) in
    let is_size : c.min-size.result ≡ min 20 (total - 20 * index) = omega (arith, c.min-size.ensures, c.loop-index.auto.out) in
    let more = blocks_more c.args.pass.now c.args.salt.now c.args.turns index in
    record {
      filled =
          filled_more c.loop-index.out before block c.copy_from_slice.new.self index total c.min-size.result _
          c.loop-index.auto.out inside is_size (omega arith) c.loop-index.invariant.long long_block
          (c.copy_from_slice.ensures.after ∙ ap (take c.min-size.result) is_block) c.loop-index.invariant.filled
          ∙ ap (take total) (sym more);
      long = ap length more ∙ length-append before block ∙ omega (arith, c.loop-index.invariant.long, long_block);
    }

pub returns : goal.returns
returns c =
    filled_all c.args.pass.now c.args.salt.now c.loop-index.out c.args.turns (length c.args.out.now) c.loop-index.index
    c.loop-index.auto.out (omega (arith, c.div_ceil-count.ensures)) c.loop-index.invariant.filled
