-- The inverse cipher undoes the cipher, and the other way round.
use Rattle.std.proofs.Common.{◌≡◌, ℕ, zero, suc, ◌+◌, ◌-◌, ◌≤◌, List, refl, sym, ap, ◌∙◌, add-one, arith}
use Rattle.aes_cbc.specs.Block.{sum_of_bytes, sub_bytes, inv_sub_bytes, shift_rows, inv_shift_rows, mix_columns, inv_mix_columns}
use Rattle.aes_cbc.specs.Expansion.{key_expansion}
use Rattle.aes_cbc.specs.Cipher.{round_key, after_rounds, cipher, after_inv_rounds, inv_cipher}
use Rattle.aes_cbc.specs.Laws.{IsBlock, InverseCipherUndoesCipher, CipherUndoesInverseCipher}
use Rattle.aes_cbc.proofs.BlockLemmas.{IsBlock-sum, sum_twice_of_blocks, IsBlock-sub_bytes, IsBlock-inv_sub_bytes, inv_sub_bytes-sub_bytes, sub_bytes-inv_sub_bytes, IsBlock-shift_rows, IsBlock-inv_shift_rows, inv_shift_rows-shift_rows, shift_rows-inv_shift_rows}
use Rattle.aes_cbc.proofs.Mixing.{IsBlock-mix_columns, IsBlock-inv_mix_columns, inv_mix_columns-mix_columns, mix_columns-inv_mix_columns}
use Rattle.aes_cbc.proofs.ExpansionLemmas.{AreRoundKeys, AreRoundKeys-key_expansion, IsBlock-round_key}

-- ---- the steps before the columns are mixed

-- SubBytes and ShiftRows
substituted : List ℕ → List ℕ
substituted s = shift_rows (sub_bytes s)

-- InvShiftRows and InvSubBytes
restored : List ℕ → List ℕ
restored s = inv_sub_bytes (inv_shift_rows s)

IsBlock-substituted : (s : List ℕ) → IsBlock s → IsBlock (substituted s)
unfolding substituted
IsBlock-substituted s h = IsBlock-shift_rows (sub_bytes s) (IsBlock-sub_bytes s h)

IsBlock-restored : (s : List ℕ) → IsBlock s → IsBlock (restored s)
unfolding restored
IsBlock-restored s h = IsBlock-inv_sub_bytes (inv_shift_rows s) (IsBlock-inv_shift_rows s h)

restored-substituted : (s : List ℕ) → IsBlock s → restored (substituted s) ≡ s
unfolding restored substituted
restored-substituted s h = ap inv_sub_bytes (inv_shift_rows-shift_rows (sub_bytes s) (IsBlock-sub_bytes s h)) ∙ inv_sub_bytes-sub_bytes s h

substituted-restored : (s : List ℕ) → IsBlock s → substituted (restored s) ≡ s
unfolding restored substituted
substituted-restored s h = ap shift_rows (sub_bytes-inv_sub_bytes (inv_shift_rows s) (IsBlock-inv_shift_rows s h)) ∙ shift_rows-inv_shift_rows s h

module _ (words : List (List ℕ)) (keys : AreRoundKeys words) where
  key_block : (n : ℕ) → n ≤ 10 → IsBlock (round_key words n)
  key_block n small = IsBlock-round_key words n keys small

  -- a round key that is added twice is gone
  key_twice : (s : List ℕ) (n : ℕ) → IsBlock s → n ≤ 10 → sum_of_bytes (sum_of_bytes s (round_key words n)) (round_key words n) ≡ s
  key_twice s n h small = sum_twice_of_blocks s (round_key words n) h (key_block n small)

  IsBlock-keyed : (s : List ℕ) (n : ℕ) → IsBlock s → n ≤ 10 → IsBlock (sum_of_bytes s (round_key words n))
  IsBlock-keyed s n h small = IsBlock-sum s (round_key words n) h (key_block n small)

  module _ (block : List ℕ) (is_block : IsBlock block) where
    -- ---- the inverse cipher undoes the cipher

    after : ℕ → List ℕ
    after n = after_rounds words block n

    after_more : (n : ℕ) → after (n + 1) ≡ sum_of_bytes (mix_columns (substituted (after n))) (round_key words (n + 1))
    unfolding after after_rounds substituted
    after_more n = ap (after_rounds words block) (add-one n)

    IsBlock-after : (n : ℕ) → n ≤ 9 → IsBlock (after n)
    unfolding after after_rounds substituted
    IsBlock-after zero small = IsBlock-keyed block 0 is_block (omega arith)
    IsBlock-after (suc n) small =
        IsBlock-keyed (mix_columns (substituted (after n))) (n + 1)
        (IsBlock-mix_columns (substituted (after n)) (IsBlock-substituted (after n) (IsBlock-after n (omega arith)))) (omega arith)

    pub IsBlock-cipher : IsBlock (cipher words block)
    unfolding cipher after substituted
    IsBlock-cipher = IsBlock-keyed (substituted (after 9)) 10 (IsBlock-substituted (after 9) (IsBlock-after 9 (omega arith))) (omega arith)

    -- n inverse rounds take n rounds back
    rounds_back : (n m : ℕ) → n + m ≡ 9 → after_inv_rounds words (cipher words block) n ≡ substituted (after m)
    unfolding after_inv_rounds cipher after substituted restored
    rounds_back zero m e =
        let all : m ≡ 9 = omega arith in
        key_twice (substituted (after 9)) 10 (IsBlock-substituted (after 9) (IsBlock-after 9 (omega arith))) (omega arith)
        ∙ ap (λ k. substituted (after k)) (sym all)
    rounds_back (suc n) m e =
        let key : List ℕ = round_key words (m + 1) in
        let is_substituted : IsBlock (substituted (after m)) = IsBlock-substituted (after m) (IsBlock-after m (omega arith)) in
        let place : 9 - n ≡ m + 1 = omega arith in
        ap (λ s. inv_mix_columns (sum_of_bytes (restored s) (round_key words (9 - n)))) (rounds_back n (m + 1) (omega arith))
        ∙ ap (λ k. inv_mix_columns (sum_of_bytes (restored (substituted (after (m + 1)))) (round_key words k))) place
        ∙ ap (λ s. inv_mix_columns (sum_of_bytes s key)) (restored-substituted (after (m + 1)) (IsBlock-after (m + 1) (omega arith)))
        ∙ ap (λ s. inv_mix_columns (sum_of_bytes s key)) (after_more m)
        ∙ ap inv_mix_columns (key_twice (mix_columns (substituted (after m))) (m + 1) (IsBlock-mix_columns (substituted (after m)) is_substituted) (omega arith))
        ∙ inv_mix_columns-mix_columns (substituted (after m)) is_substituted

    pub inv_cipher-cipher : inv_cipher words (cipher words block) ≡ block
    unfolding inv_cipher after after_rounds restored
    inv_cipher-cipher =
        let key : List ℕ = round_key words 0 in
        ap (λ s. sum_of_bytes (restored s) key) (rounds_back 9 0 refl)
        ∙ ap (λ s. sum_of_bytes s key) (restored-substituted (after 0) (IsBlock-after 0 (omega arith)))
        ∙ key_twice block 0 is_block (omega arith)

    -- ---- the cipher undoes the inverse cipher

    before : ℕ → List ℕ
    before n = after_inv_rounds words block n

    IsBlock-before : (n : ℕ) → n ≤ 9 → IsBlock (before n)
    unfolding before after_inv_rounds restored
    IsBlock-before zero small = IsBlock-keyed block 10 is_block (omega arith)
    IsBlock-before (suc n) small =
        IsBlock-inv_mix_columns (sum_of_bytes (restored (before n)) (round_key words (9 - n)))
        (IsBlock-keyed (restored (before n)) (9 - n) (IsBlock-restored (before n) (IsBlock-before n (omega arith))) (omega arith))

    -- n rounds take n inverse rounds back
    rounds_forth : (n m : ℕ) → n + m ≡ 9 → after_rounds words (inv_cipher words block) n ≡ restored (before m)
    unfolding after_rounds after_inv_rounds inv_cipher before substituted restored
    rounds_forth zero m e =
        let all : m ≡ 9 = omega arith in
        key_twice (restored (before 9)) 0 (IsBlock-restored (before 9) (IsBlock-before 9 (omega arith))) (omega arith)
        ∙ ap (λ k. restored (before k)) (sym all)
    rounds_forth (suc n) m e =
        let key : List ℕ = round_key words (n + 1) in
        let is_restored : IsBlock (restored (before m)) = IsBlock-restored (before m) (IsBlock-before m (omega arith)) in
        let place : 9 - m ≡ n + 1 = omega arith in
        let more : before (m + 1) ≡ inv_mix_columns (sum_of_bytes (restored (before m)) (round_key words (9 - m))) = ap (after_inv_rounds words block) (add-one m) in
        ap (λ s. sum_of_bytes (mix_columns (substituted s)) key) (rounds_forth n (m + 1) (omega arith))
        ∙ ap (λ s. sum_of_bytes (mix_columns s) key) (substituted-restored (before (m + 1)) (IsBlock-before (m + 1) (omega arith)))
        ∙ ap (λ s. sum_of_bytes (mix_columns s) key) more
        ∙ ap (λ k. sum_of_bytes (mix_columns (inv_mix_columns (sum_of_bytes (restored (before m)) (round_key words k)))) key) place
        ∙ ap (λ s. sum_of_bytes s key) (mix_columns-inv_mix_columns (sum_of_bytes (restored (before m)) key) (IsBlock-keyed (restored (before m)) (n + 1) is_restored (omega arith)))
        ∙ key_twice (restored (before m)) (n + 1) is_restored (omega arith)

    pub cipher-inv_cipher : cipher words (inv_cipher words block) ≡ block
    unfolding cipher before after_inv_rounds substituted
    cipher-inv_cipher =
        let key : List ℕ = round_key words 10 in
        ap (λ s. sum_of_bytes (substituted s) key) (rounds_forth 9 0 refl)
        ∙ ap (λ s. sum_of_bytes s key) (substituted-restored (before 0) (IsBlock-before 0 (omega arith)))
        ∙ key_twice block 10 is_block (omega arith)

pub inverse_cipher_undoes_cipher : InverseCipherUndoesCipher
inverse_cipher_undoes_cipher key block is_key is_block = inv_cipher-cipher (key_expansion key) (AreRoundKeys-key_expansion key is_key) block is_block

pub cipher_undoes_inverse_cipher : CipherUndoesInverseCipher
cipher_undoes_inverse_cipher key block is_key is_block = cipher-inv_cipher (key_expansion key) (AreRoundKeys-key_expansion key is_key) block is_block
