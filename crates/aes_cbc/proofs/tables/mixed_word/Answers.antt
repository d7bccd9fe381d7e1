use Rattle.std.proofs.Common.{arith}
use Rattle.aes_cbc.proofs.TableFacts.{at_mixed}
use Rattle.aes_cbc.proofs.tables.mixed_word.Goals as goal

pub returns : goal.returns
returns c = at_mixed c.args.byte (omega arith)
