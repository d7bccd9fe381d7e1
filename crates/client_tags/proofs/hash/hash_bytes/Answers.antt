use Rattle.std.proofs.Common.{Ok, length, ap, sym, ◌∙◌, arith}
use Rattle.client_tags.proofs.HashTexts.{no_text_of_length, no_text_undecoded, no_text_of_others, none_of_length, none_undecoded, none_of_others, bytes_of_text}
use Rattle.client_tags.proofs.hash.hash_bytes.Goals as goal

pub returns-then-text-ne28-clause-none : goal.returns-then-text-ne28-clause-none
returns-then-text-ne28-clause-none c = no_text_of_length c.args.text.now c.if-text-ne28.true

pub returns-in_default-clause-none : goal.returns-in_default-clause-none
returns-in_default-clause-none c = no_text_undecoded c.args.text.now _ c.in_default.ensures.err

pub returns-in_default-try_from-clause-none : goal.returns-in_default-try_from-clause-none
returns-in_default-try_from-clause-none c =
    no_text_of_others c.args.text.now _ c.in-Ok.ensures.ok.0 c.in_default-try_from.ensures.1

pub returns-then-text-ne28-clause-is : goal.returns-then-text-ne28-clause-is
returns-then-text-ne28-clause-is c =
    none_of_length c.args.text.now (λ i. omega (arith, c.type_inv.text i)) c.if-text-ne28.true

pub returns-in_default-clause-is : goal.returns-in_default-clause-is
returns-in_default-clause-is c = none_undecoded c.args.text.now _ c.in_default.ensures.err

pub returns-in_default-try_from-clause-is : goal.returns-in_default-try_from-clause-is
returns-in_default-try_from-clause-is c =
    none_of_others c.args.text.now _ c.in-Ok.ensures.ok.0 c.in_default-try_from.ensures.1

pub returns-clause-is : goal.returns-clause-is
returns-clause-is c =
    bytes_of_text c.args.text.now c.in-Ok-try_from.bytes (c.in-Ok.ensures.ok.0 ∙ ap Ok (sym c.in-Ok-try_from.ensures.1.same))
    (ap length c.in-Ok-try_from.ensures.1.same ∙ c.in-Ok-try_from.ensures.1.long)
