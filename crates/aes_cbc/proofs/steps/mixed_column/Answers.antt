use Rattle.std.proofs.Common.{◌∙◌, ap}
use Rattle.aes_cbc.proofs.StepLemmas.{block_from}
use Rattle.aes_cbc.proofs.ColumnWords.{word_of, mix_words, column_from}
use Rattle.aes_cbc.proofs.steps.mixed_column.Goals as goal

pub returns : goal.returns
returns c =
    column_from 2 3 1 1 mix_words c.args.block.now c.args.column c.to_be_bytes.result
    c.mixed_word.result c.mixed_word-2.result c.mixed_word-3.result c.mixed_word-4.result c.rotate_right.result c.rotate_right-2.result c.rotate_right-3.result
    (block_from c.args.block.now c.told-block c.fits-block) c.requires c.to_be_bytes.ensures
    c.rotate_right.ensures c.rotate_right-2.ensures c.rotate_right-3.ensures
    (c.mixed_word.ensures ∙ ap (word_of 2 3 1 1) c.byte_at.ensures) (c.mixed_word-2.ensures ∙ ap (word_of 2 3 1 1) c.byte_at-2.ensures)
    (c.mixed_word-3.ensures ∙ ap (word_of 2 3 1 1) c.byte_at-3.ensures) (c.mixed_word-4.ensures ∙ ap (word_of 2 3 1 1) c.byte_at-4.ensures)
