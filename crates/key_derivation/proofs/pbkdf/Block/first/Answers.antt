use Rattle.std.proofs.Common.{ap}
use Rattle.key_derivation.specs.Pbkdf2.{xor_of_turns}
use Rattle.key_derivation.proofs.pbkdf.Block.first.Goals as goal

pub returns : goal.returns
unfolding xor_of_turns
returns c pass holds = record { value = c.first_turn-value.ensures pass holds; bytes = c.first_turn-value.ensures pass holds }
