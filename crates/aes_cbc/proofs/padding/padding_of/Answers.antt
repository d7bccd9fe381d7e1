use Rattle.std.proofs.lemmas.Bool.{false≢true}
use Rattle.aes_cbc.proofs.PaddingLemmas.{no_size, no_tail}
use Rattle.aes_cbc.proofs.padding.padding_of.Goals as goal

pub returns-then-not-is_padding_size : goal.returns-then-not-is_padding_size
returns-then-not-is_padding_size c = no_size c.args.block.now (λ some small. false≢true (c.if-not-is_padding_size.ensures.1 (some, small)))

pub returns-else-are_all : goal.returns-else-are_all
returns-else-are_all c = no_tail c.args.block.now c.told-block (λ all. false≢true (c.if-are_all.ensures.1 all))
