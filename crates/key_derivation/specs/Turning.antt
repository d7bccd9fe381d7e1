-- A block of a derived key after some of its turns.
use Rattle.std.specs.Prelude.{◌≡◌, ℕ, List}
use Rattle.sha1.specs.Sha1.{sha1}
use Rattle.key_derivation.specs.Hmac.{hmac}
use Rattle.key_derivation.specs.Pbkdf2.{turn_value, xor_of_turns}
use Rattle.key_derivation.specs.declared.pbkdf.Block.{Block}

-- a block has made so many turns of a password's HMAC from this text
pub record IsAfter (block : Block) (pass text : List ℕ) (turns : ℕ) : Type 0 where
  pub value : block.value ≡ turn_value (hmac sha1 pass) text turns
  pub bytes : block.bytes ≡ xor_of_turns (hmac sha1 pass) text turns
