use Rattle.std.proofs.Common.{Ok, Err, ◌∙◌, ap, sym}
use Rattle.nigori.specs.declared.fault.UnsealFault.TheVariants.{BadPadding}
use Rattle.nigori.proofs.Verdicts.{exact_verdict}
use Rattle.nigori.proofs.unsealing.unseal.Goals as goal

pub returns-clause-text : goal.returns-clause-text
returns-clause-text c =
    λ text. exact_verdict c.args.key.now c.args.blob.now c.deref.result.now (c.in_ok-bytes.ensures.bytes ∙ ap Ok (sym c.deref.ensures.value))
    c.text_of_bytes.result (Ok text) c.text_of_bytes.ensures (λ e. cc)

pub returns-clause-bad_padding : goal.returns-clause-bad_padding
returns-clause-bad_padding c =
    exact_verdict c.args.key.now c.args.blob.now c.deref.result.now (c.in_ok-bytes.ensures.bytes ∙ ap Ok (sym c.deref.ensures.value))
    c.text_of_bytes.result (Err BadPadding) c.text_of_bytes.ensures (λ e. cc)
