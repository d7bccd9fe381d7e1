-- What holds of all keys and blocks, by the definitions alone.
use Rattle.std.specs.Prelude.{◌≡◌, ℕ, ◌<◌, List, All, length}
use Rattle.aes_cbc.specs.Expansion.{key_expansion}
use Rattle.aes_cbc.specs.Cipher.{cipher, inv_cipher}
use Rattle.aes_cbc.specs.Chaining.{AreWholeBlocks, IsCbcText, cbc_encrypted}

-- these numbers are bytes
abbrev pub AreBytes : List ℕ → Type 0
AreBytes xs = All (λ b. b < 256) xs

-- these are 16 bytes
pub record IsBlock (xs : List ℕ) : Type 0 where
  pub are_bytes : AreBytes xs
  pub is_whole : length xs ≡ 16

-- a block under the cipher and then under its inverse is the block again
abbrev pub InverseCipherUndoesCipher : Type 0
InverseCipherUndoesCipher =
    (key block : List ℕ) → IsBlock key → IsBlock block
    → let words = key_expansion key in inv_cipher words (cipher words block) ≡ block

-- a block under the inverse cipher and then under the cipher is the block again
abbrev pub CipherUndoesInverseCipher : Type 0
CipherUndoesInverseCipher =
    (key block : List ℕ) → IsBlock key → IsBlock block
    → let words = key_expansion key in cipher words (inv_cipher words block) ≡ block

-- a text is encrypted to whole blocks, which are decrypted to that text and to no other
pub record DecryptsTo (words : List (List ℕ)) (iv text : List ℕ) : Type 0 where
  pub are_whole : AreWholeBlocks (cbc_encrypted words iv text)
  pub is_text : IsCbcText words iv (cbc_encrypted words iv text) text
  pub is_only : (other : List ℕ) → IsCbcText words iv (cbc_encrypted words iv text) other → other ≡ text

-- a text that is encrypted and then decrypted, under one key and initialization vector, is the text again
abbrev pub DecryptionUndoesEncryption : Type 0
DecryptionUndoesEncryption =
    (key iv text : List ℕ) → IsBlock key → IsBlock iv → AreBytes text
    → DecryptsTo (key_expansion key) iv text
