-- The state of the cipher: a block of 16 bytes, four rows by four columns, listed column by column
-- (FIPS 197, section 3.4), and the steps of a round on it (5.1, 5.3).
use Rattle.std.specs.Prelude.{ℕ, ◌+◌, ◌-◌, ◌*◌, ◌/◌, ◌%◌, List, [], ◌∷◌, map, slice_index}
use Rattle.std.specs.List.{range_with_len}
use Rattle.aes_cbc.specs.Field.{◌⊕◌, ◌•◌}
use Rattle.aes_cbc.specs.Substitution.{sub_byte, inv_sub_byte}

-- the byte of a block in this row and column (3.4)
abbrev pub byte_at : List ℕ → ℕ → ℕ → ℕ
byte_at block row column = slice_index block (row + 4 * column)

-- the block that has these bytes, by row and column (3.4)
unfoldable pub block_of : (ℕ → ℕ → ℕ) → List ℕ
block_of byte = map (λ i. byte (i % 4) (i / 4)) (range_with_len 0 16)

-- the sum of two lists of bytes, byte by byte
unfoldable pub sum_of_bytes : List ℕ → List ℕ → List ℕ
sum_of_bytes [] ys = []
sum_of_bytes (x ∷ xs) [] = []
sum_of_bytes (x ∷ xs) (y ∷ ys) = (x ⊕ y) ∷ sum_of_bytes xs ys

-- SubBytes: each byte goes through the S-box (5.1.1)
unfoldable pub sub_bytes : List ℕ → List ℕ
sub_bytes block = map sub_byte block

-- InvSubBytes: each byte goes through the inverse S-box (5.3.2)
unfoldable pub inv_sub_bytes : List ℕ → List ℕ
inv_sub_bytes block = map inv_sub_byte block

-- ShiftRows: row r moves r places to the left, and goes round (5.1.2)
unfoldable pub shift_rows : List ℕ → List ℕ
shift_rows block = block_of (λ row column. byte_at block row ((column + row) % 4))

-- InvShiftRows: row r moves r places to the right, and goes round (5.3.1)
unfoldable pub inv_shift_rows : List ℕ → List ℕ
inv_shift_rows block = block_of (λ row column. byte_at block row ((column + 4 - row) % 4))

-- the byte in this row and column of the product of a matrix and a block: the sum of the column's bytes from
-- that row downwards, going round, each times its coefficient
abbrev pub mixed_byte : ℕ → ℕ → ℕ → ℕ → List ℕ → ℕ → ℕ → ℕ
mixed_byte a b c d block row column =
    a • byte_at block row column ⊕ b • byte_at block ((row + 1) % 4) column
    ⊕ c • byte_at block ((row + 2) % 4) column ⊕ d • byte_at block ((row + 3) % 4) column

-- the four bytes of this column of that product
abbrev pub mixed_column : ℕ → ℕ → ℕ → ℕ → List ℕ → ℕ → List ℕ
mixed_column a b c d block column =
    let byte : ℕ → ℕ = λ row. mixed_byte a b c d block row column in byte 0 ∷ byte 1 ∷ byte 2 ∷ byte 3 ∷ []

-- each column times a matrix over the field, whose first row is these four bytes and whose other rows are the
-- first one moved to the right, going round (4.3)
unfoldable pub mixed : ℕ → ℕ → ℕ → ℕ → List ℕ → List ℕ
mixed a b c d block = block_of (mixed_byte a b c d block)

-- MixColumns (5.1.3)
abbrev pub mix_columns : List ℕ → List ℕ
mix_columns block = mixed 0x02 0x03 0x01 0x01 block

-- InvMixColumns (5.3.3)
abbrev pub inv_mix_columns : List ℕ → List ℕ
inv_mix_columns block = mixed 0x0e 0x0b 0x0d 0x09 block

-- AddRoundKey: the round key is added to the state (5.1.4)
abbrev pub add_round_key : List ℕ → List ℕ → List ℕ
add_round_key block round_key = sum_of_bytes block round_key
