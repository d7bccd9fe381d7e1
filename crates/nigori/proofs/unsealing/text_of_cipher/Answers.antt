use Rattle.std.proofs.Common.{◌∙◌, ap, subst, Err}
use Rattle.aes_cbc.specs.Chaining.{HasNoPadding}
use Rattle.nigori.proofs.Parts.{no_bad_length}
use Rattle.nigori.proofs.unsealing.text_of_cipher.Goals as goal

pub unreachable-requires : goal.unreachable-requires
unreachable-requires c =
    no_bad_length c.args.cipher.now c.requires
    ((c.cbc_decrypt.ensures.length c.in-Err-Length.field-0-0).0 (c.in-Err-Length.is ∙ ap Err c.in-Err-Length.field-0-is)).1

pub returns-in-Err-Padding : goal.returns-in-Err-Padding
returns-in-Err-Padding c =
    subst (λ words. HasNoPadding words c.args.iv.now c.args.cipher.now) c.new.ensures
    (c.cbc_decrypt.ensures.padding.0 (c.in-Err-Padding.is ∙ ap Err c.in-Err-Padding.field-0-is)).1
