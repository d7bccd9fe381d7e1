use Rattle.std.proofs.Common.{arith}
use Rattle.client_tags.proofs.HashTexts.{one_found}
use Rattle.client_tags.proofs.hash.TagHash.from_text.Goals as goal

pub returns-clause-found : goal.returns-clause-found
returns-clause-found c =
    one_found c.args.text.now c.in_ok-bytes.bytes (λ i. omega (arith, c.type_inv.text i)) c.in_ok-bytes.ensures.some
