-- Cipher block chaining of a padded text (SP 800-38A, section 6.2).
use Rattle.std.specs.Prelude.{◌≡◌, ◌≢◌, ◌⊎◌, ℕ, ◌-◌, ◌/◌, ◌%◌, ◌<◌, List, [], ◌∷◌, length, slice_index_or}
use Rattle.std.specs.List.{concat}
use Rattle.std.specs.Simd.{first_chunks}
use Rattle.aes_cbc.specs.Block.{sum_of_bytes}
use Rattle.aes_cbc.specs.Cipher.{cipher, inv_cipher}
use Rattle.aes_cbc.specs.Padding.{padded, IsPaddedText}

-- the whole blocks of a text, in order
abbrev pub blocks_of : List ℕ → List (List ℕ)
blocks_of text = first_chunks 16 (length text / 16) text

-- these bytes are whole blocks, at least one
abbrev pub AreWholeBlocks : List ℕ → Type 0
AreWholeBlocks bytes = (0 < length bytes) × (length bytes % 16 ≡ 0)

-- blocks encrypted in a chain: each one is summed with the encrypted block before it, and the first one with
-- the initialization vector (SP 800-38A, 6.2)
unfoldable pub encrypted_blocks : List (List ℕ) → List ℕ → List (List ℕ) → List (List ℕ)
encrypted_blocks words before [] = []
encrypted_blocks words before (block ∷ blocks) =
    let chained = cipher words (sum_of_bytes block before) in
    chained ∷ encrypted_blocks words chained blocks

-- blocks decrypted in a chain: each one is summed with the block before it as it was, and the first one with
-- the initialization vector (SP 800-38A, 6.2)
unfoldable pub decrypted_blocks : List (List ℕ) → List ℕ → List (List ℕ) → List (List ℕ)
decrypted_blocks words before [] = []
decrypted_blocks words before (block ∷ blocks) =
    sum_of_bytes (inv_cipher words block) before ∷ decrypted_blocks words block blocks

-- the cipher text of a text: its padded blocks in a chain
unfoldable pub cbc_encrypted : List (List ℕ) → List ℕ → List ℕ → List ℕ
cbc_encrypted words iv text = concat (encrypted_blocks words iv (blocks_of (padded text)))

-- the padded text of a cipher text
unfoldable pub cbc_decrypted : List (List ℕ) → List ℕ → List ℕ → List ℕ
cbc_decrypted words iv bytes = concat (decrypted_blocks words iv (blocks_of bytes))

-- this text is what a cipher text has under its padding
abbrev pub IsCbcText : List (List ℕ) → List ℕ → List ℕ → List ℕ → Type 0
IsCbcText words iv bytes text = IsPaddedText (cbc_decrypted words iv bytes) text

-- the padded text of a cipher text ends in no padding
abbrev pub HasNoPadding : List (List ℕ) → List ℕ → List ℕ → Type 0
HasNoPadding words iv bytes = (text : List ℕ) → IsCbcText words iv bytes text → ⊥

-- a cipher text has a text under its padding
abbrev pub HasText : List (List ℕ) → List ℕ → List ℕ → Type 0
HasText words iv bytes = (text : List ℕ) × IsCbcText words iv bytes text

-- these bytes are no whole blocks
abbrev pub HasBadLength : List ℕ → Type 0
HasBadLength bytes = (length bytes ≡ 0) ⊎ (length bytes % 16 ≢ 0)

-- the last one of these blocks, or the given one where there is none
abbrev pub last_or : List ℕ → List (List ℕ) → List ℕ
last_or before blocks = slice_index_or blocks (length blocks - 1) before
