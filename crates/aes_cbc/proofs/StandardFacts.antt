-- Examples of the standards, so that a wrong definition does not check.
use Rattle.std.proofs.Common.{◌≡◌, ℕ, ◌<◌, [], ◌∷◌, drop, refl}
use Rattle.aes_cbc.specs.Field.{◌•◌, polynomial_product, remainder, inverse, power_of_x}
use Rattle.aes_cbc.specs.Substitution.{sub_byte, affine, inv_affine, number_of_bits, inv_sub_byte}
use Rattle.aes_cbc.specs.Block.{block_of, sum_of_bytes, sub_bytes, inv_sub_bytes, shift_rows, inv_shift_rows, mixed}
use Rattle.aes_cbc.specs.Expansion.{round_addend, next_word, first_words, key_expansion}
use Rattle.aes_cbc.specs.Cipher.{round_key, after_rounds, cipher, after_inv_rounds, inv_cipher}
use Rattle.aes_cbc.proofs.FieldLemmas.{agree_at_bytes}

-- the product of FIPS 197, section 4.2
pub product : 0x57 • 0x83 ≡ 0xc1
unfolding ◌•◌ polynomial_product remainder
product = refl

-- the entry of the S-box that FIPS 197, section 5.1.1, looks up
pub entry : sub_byte 0x53 ≡ 0xed
unfolding sub_byte affine number_of_bits inverse ◌•◌ polynomial_product remainder
entry = refl

-- the inverse of the affine map undoes it
pub inv_affine-affine : (b : ℕ) → b < 256 → inv_affine (affine b) ≡ b
unfolding affine inv_affine number_of_bits
inv_affine-affine = agree_at_bytes (λ b. inv_affine (affine b)) (λ b. b) refl

-- the last round key of the expansion in appendix A.1
pub last_round_key : drop 40 (key_expansion (0x2b ∷ 0x7e ∷ 0x15 ∷ 0x16 ∷ 0x28 ∷ 0xae ∷ 0xd2 ∷ 0xa6 ∷ 0xab ∷ 0xf7 ∷ 0x15 ∷ 0x88 ∷ 0x09 ∷ 0xcf ∷ 0x4f ∷ 0x3c ∷ [])) ≡ (0xd0 ∷ 0x14 ∷ 0xf9 ∷ 0xa8 ∷ []) ∷ (0xc9 ∷ 0xee ∷ 0x25 ∷ 0x89 ∷ []) ∷ (0xe1 ∷ 0x3f ∷ 0x0c ∷ 0xc8 ∷ []) ∷ (0xb6 ∷ 0x63 ∷ 0x0c ∷ 0xa6 ∷ []) ∷ []
unfolding key_expansion first_words next_word round_addend sum_of_bytes power_of_x sub_byte affine number_of_bits inverse ◌•◌ polynomial_product remainder
last_round_key = refl

-- the cipher on the block of appendix C.1 (of the first edition)
pub encrypted : cipher (key_expansion (0x00 ∷ 0x01 ∷ 0x02 ∷ 0x03 ∷ 0x04 ∷ 0x05 ∷ 0x06 ∷ 0x07 ∷ 0x08 ∷ 0x09 ∷ 0x0a ∷ 0x0b ∷ 0x0c ∷ 0x0d ∷ 0x0e ∷ 0x0f ∷ [])) (0x00 ∷ 0x11 ∷ 0x22 ∷ 0x33 ∷ 0x44 ∷ 0x55 ∷ 0x66 ∷ 0x77 ∷ 0x88 ∷ 0x99 ∷ 0xaa ∷ 0xbb ∷ 0xcc ∷ 0xdd ∷ 0xee ∷ 0xff ∷ []) ≡ 0x69 ∷ 0xc4 ∷ 0xe0 ∷ 0xd8 ∷ 0x6a ∷ 0x7b ∷ 0x04 ∷ 0x30 ∷ 0xd8 ∷ 0xcd ∷ 0xb7 ∷ 0x80 ∷ 0x70 ∷ 0xb4 ∷ 0xc5 ∷ 0x5a ∷ []
unfolding cipher after_rounds round_key block_of sub_bytes shift_rows mixed key_expansion first_words next_word round_addend sum_of_bytes power_of_x sub_byte affine number_of_bits inverse ◌•◌ polynomial_product remainder
encrypted = refl

-- the inverse cipher on it
pub decrypted : inv_cipher (key_expansion (0x00 ∷ 0x01 ∷ 0x02 ∷ 0x03 ∷ 0x04 ∷ 0x05 ∷ 0x06 ∷ 0x07 ∷ 0x08 ∷ 0x09 ∷ 0x0a ∷ 0x0b ∷ 0x0c ∷ 0x0d ∷ 0x0e ∷ 0x0f ∷ [])) (0x69 ∷ 0xc4 ∷ 0xe0 ∷ 0xd8 ∷ 0x6a ∷ 0x7b ∷ 0x04 ∷ 0x30 ∷ 0xd8 ∷ 0xcd ∷ 0xb7 ∷ 0x80 ∷ 0x70 ∷ 0xb4 ∷ 0xc5 ∷ 0x5a ∷ []) ≡ 0x00 ∷ 0x11 ∷ 0x22 ∷ 0x33 ∷ 0x44 ∷ 0x55 ∷ 0x66 ∷ 0x77 ∷ 0x88 ∷ 0x99 ∷ 0xaa ∷ 0xbb ∷ 0xcc ∷ 0xdd ∷ 0xee ∷ 0xff ∷ []
unfolding inv_cipher after_inv_rounds round_key block_of inv_sub_bytes inv_shift_rows mixed key_expansion first_words next_word round_addend sum_of_bytes power_of_x sub_byte inv_sub_byte affine inv_affine number_of_bits inverse ◌•◌ polynomial_product remainder
decrypted = refl
