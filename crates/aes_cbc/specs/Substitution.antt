-- The S-box and its inverse (FIPS 197, sections 5.1.1 and 5.3.2).
use Rattle.std.specs.Prelude.{ℕ, zero, suc, ◌+◌, ◌*◌, ◌%◌, ◌^◌}
use Rattle.std.specs.Int.{bit_at}
use Rattle.aes_cbc.specs.Field.{◌⊕◌, inverse}

-- the number whose lowest n bits are these, and that has no others
unfoldable pub number_of_bits : ℕ → (ℕ → ℕ) → ℕ
number_of_bits zero bit = 0
number_of_bits (suc n) bit = number_of_bits n bit + bit n * 2 ^ n

-- bit i of a byte, where the places go round
abbrev pub cyclic_bit : ℕ → ℕ → ℕ
cyclic_bit b i = bit_at b (i % 8)

-- the affine map of the S-box: each bit is summed with four others and with that of a constant (5.1.1)
unfoldable pub affine : ℕ → ℕ
affine b = number_of_bits 8 (λ i.
    cyclic_bit b i ⊕ cyclic_bit b (i + 4) ⊕ cyclic_bit b (i + 5) ⊕ cyclic_bit b (i + 6) ⊕ cyclic_bit b (i + 7)
    ⊕ bit_at 0x63 i)

-- the inverse of the affine map (5.3.2)
unfoldable pub inv_affine : ℕ → ℕ
inv_affine b = number_of_bits 8 (λ i.
    cyclic_bit b (i + 2) ⊕ cyclic_bit b (i + 5) ⊕ cyclic_bit b (i + 7) ⊕ bit_at 0x05 i)

-- the S-box: the inverse in the field, and then the affine map (5.1.1)
unfoldable pub sub_byte : ℕ → ℕ
sub_byte b = affine (inverse b)

-- the inverse S-box: the inverse of the affine map, and then the inverse in the field (5.3.2)
unfoldable pub inv_sub_byte : ℕ → ℕ
inv_sub_byte b = inverse (inv_affine b)
