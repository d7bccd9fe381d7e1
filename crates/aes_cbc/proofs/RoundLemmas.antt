-- The rounds of the cipher and of its inverse, one by one, from what the steps answer.
use Rattle.std.proofs.Common.{◌≡◌, ℕ, ◌+◌, ◌-◌, List, sym, ap, ap₂, ◌∙◌, add-one}
use Rattle.aes_cbc.specs.Block.{sum_of_bytes, sub_bytes, inv_sub_bytes, shift_rows, inv_shift_rows, mix_columns, inv_mix_columns}
use Rattle.aes_cbc.specs.Cipher.{round_key, after_rounds, cipher, after_inv_rounds, inv_cipher}

module _ (words : List (List ℕ)) (block : List ℕ) where
  pub first_state : (key state : List ℕ) → key ≡ round_key words 0 → state ≡ sum_of_bytes block key → state ≡ after_rounds words block 0
  unfolding after_rounds
  first_state key state is_key is_sum = is_sum ∙ ap (sum_of_bytes block) is_key

  pub next_state : (n : ℕ) (state substituted mixed key next : List ℕ) → state ≡ after_rounds words block n → substituted ≡ shift_rows (sub_bytes state)
      → mixed ≡ mix_columns substituted → key ≡ round_key words (n + 1) → next ≡ sum_of_bytes mixed key → next ≡ after_rounds words block (n + 1)
  unfolding after_rounds
  next_state n state substituted mixed key next is_state is_substituted is_mixed is_key is_sum =
      is_sum ∙ ap₂ sum_of_bytes (is_mixed ∙ ap mix_columns (is_substituted ∙ ap (λ s. shift_rows (sub_bytes s)) is_state)) is_key
      ∙ sym (ap (after_rounds words block) (add-one n))

  pub last_state : (n : ℕ) (state substituted key last : List ℕ) → n ≡ 9 → state ≡ after_rounds words block n → substituted ≡ shift_rows (sub_bytes state)
      → key ≡ round_key words 10 → last ≡ sum_of_bytes substituted key → last ≡ cipher words block
  unfolding cipher
  last_state n state substituted key last e is_state is_substituted is_key is_sum =
      is_sum ∙ ap₂ sum_of_bytes (is_substituted ∙ ap (λ s. shift_rows (sub_bytes s)) (is_state ∙ ap (after_rounds words block) e)) is_key

  pub first_inv_state : (key state : List ℕ) → key ≡ round_key words 10 → state ≡ sum_of_bytes block key → state ≡ after_inv_rounds words block 0
  unfolding after_inv_rounds
  first_inv_state key state is_key is_sum = is_sum ∙ ap (sum_of_bytes block) is_key

  pub next_inv_state : (n : ℕ) (state restored key keyed next : List ℕ) → state ≡ after_inv_rounds words block n → restored ≡ inv_sub_bytes (inv_shift_rows state)
      → key ≡ round_key words (9 - n) → keyed ≡ sum_of_bytes restored key → next ≡ inv_mix_columns keyed → next ≡ after_inv_rounds words block (n + 1)
  unfolding after_inv_rounds
  next_inv_state n state restored key keyed next is_state is_restored is_key is_sum is_mixed =
      is_mixed ∙ ap inv_mix_columns (is_sum ∙ ap₂ sum_of_bytes (is_restored ∙ ap (λ s. inv_sub_bytes (inv_shift_rows s)) is_state) is_key)
      ∙ sym (ap (after_inv_rounds words block) (add-one n))

  pub last_inv_state : (n : ℕ) (state restored key last : List ℕ) → n ≡ 9 → state ≡ after_inv_rounds words block n → restored ≡ inv_sub_bytes (inv_shift_rows state)
      → key ≡ round_key words 0 → last ≡ sum_of_bytes restored key → last ≡ inv_cipher words block
  unfolding inv_cipher
  last_inv_state n state restored key last e is_state is_restored is_key is_sum =
      is_sum ∙ ap₂ sum_of_bytes (is_restored ∙ ap (λ s. inv_sub_bytes (inv_shift_rows s)) (is_state ∙ ap (after_inv_rounds words block) e)) is_key
