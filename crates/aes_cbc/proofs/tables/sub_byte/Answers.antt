use Rattle.std.proofs.Common.{arith}
use Rattle.aes_cbc.proofs.TableFacts.{at_s_box}
use Rattle.aes_cbc.proofs.tables.sub_byte.Goals as goal

pub returns : goal.returns
returns c = at_s_box c.args.byte (omega arith)
