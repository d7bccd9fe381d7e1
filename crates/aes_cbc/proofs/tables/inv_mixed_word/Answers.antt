use Rattle.std.proofs.Common.{arith}
use Rattle.aes_cbc.proofs.TableFacts.{at_inv_mixed}
use Rattle.aes_cbc.proofs.tables.inv_mixed_word.Goals as goal

pub returns : goal.returns
returns c = at_inv_mixed c.args.byte (omega arith)
