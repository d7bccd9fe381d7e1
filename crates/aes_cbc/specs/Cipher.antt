-- The cipher and its inverse on one block, with the words of the expanded key (FIPS 197, sections 5.1
-- and 5.3). AES-128 has ten rounds.
use Rattle.std.specs.Prelude.{ℕ, zero, suc, ◌+◌, ◌-◌, ◌*◌, List, slice_index}
use Rattle.aes_cbc.specs.Expansion.{word_at}
use Rattle.aes_cbc.specs.Block.{block_of, sub_bytes, inv_sub_bytes, shift_rows, inv_shift_rows, mix_columns, inv_mix_columns, add_round_key}

-- round key n: the words 4n to 4n + 3, as the columns of a block (5.1.4)
unfoldable pub round_key : List (List ℕ) → ℕ → List ℕ
round_key words n = block_of (λ row column. slice_index (word_at words (4 * n + column)) row)

-- the state after the first round key and n of the nine rounds that mix columns (5.1)
unfoldable pub after_rounds : List (List ℕ) → List ℕ → ℕ → List ℕ
after_rounds words block zero = add_round_key block (round_key words 0)
after_rounds words block (suc n) =
    let substituted = shift_rows (sub_bytes (after_rounds words block n)) in
    add_round_key (mix_columns substituted) (round_key words (n + 1))

-- Cipher: nine rounds, and a last one that does not mix columns (5.1)
unfoldable pub cipher : List (List ℕ) → List ℕ → List ℕ
cipher words block = add_round_key (shift_rows (sub_bytes (after_rounds words block 9))) (round_key words 10)

-- the state after the last round key and n of the nine inverse rounds that mix columns (5.3)
unfoldable pub after_inv_rounds : List (List ℕ) → List ℕ → ℕ → List ℕ
after_inv_rounds words block zero = add_round_key block (round_key words 10)
after_inv_rounds words block (suc n) =
    let restored = inv_sub_bytes (inv_shift_rows (after_inv_rounds words block n)) in
    inv_mix_columns (add_round_key restored (round_key words (9 - n)))

-- InvCipher: nine rounds, and a last one that does not mix columns (5.3)
unfoldable pub inv_cipher : List (List ℕ) → List ℕ → List ℕ
inv_cipher words block =
    add_round_key (inv_sub_bytes (inv_shift_rows (after_inv_rounds words block 9))) (round_key words 0)
