use Rattle.std.proofs.Common.{arith}
use Rattle.aes_cbc.proofs.TableFacts.{at_inv_s_box}
use Rattle.aes_cbc.proofs.tables.inv_sub_byte.Goals as goal

pub returns : goal.returns
returns c = at_inv_s_box c.args.byte (omega arith)
