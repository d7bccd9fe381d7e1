use Rattle.std.proofs.Common.{◌-◌, arith}
use Rattle.aes_cbc.proofs.TableFacts.{at_round_constants}
use Rattle.aes_cbc.proofs.tables.round_constant.Goals as goal

pub returns : goal.returns
returns c = at_round_constants (c.args.n - 1) (omega arith)
