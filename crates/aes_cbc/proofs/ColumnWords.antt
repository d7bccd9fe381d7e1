-- A column times a matrix, from words: each of its bytes makes a word of products, which is turned to its row.
use Rattle.std.proofs.Common.{◌≡◌, ℕ, ◌/◌, ◌%◌, ◌^◌, ◌<◌, List, [], ◌∷◌, map, get_or, refl, sym, ap, ap₂, ◌∙◌, arith}
use Rattle.std.specs.Int.{w32, from_be_bytes, to_be_bytes, rotate_right}
use Rattle.std.specs.List.{range_with_len}
use Rattle.std.proofs.lemmas.Nat.{xor_shr, xor_mod}
use Rattle.std.proofs.lemmas.List.FromFn.{get_or-map-range_with_len}
use Rattle.aes_cbc.specs.Field.{◌⊕◌, ◌•◌, polynomial_product, remainder}
use Rattle.aes_cbc.specs.Block.{byte_at, sum_of_bytes, mixed_column}
use Rattle.aes_cbc.specs.Laws.{IsBlock}
use Rattle.aes_cbc.proofs.BlockLemmas.{byte_at-lt}
use Rattle.aes_cbc.proofs.Mixing.{turn}

-- ---- the bytes of a sum of words

byte_of_sum : (a b k : ℕ) → (a ⊕ b) / 2 ^ k % 2 ^ 8 ≡ (a / 2 ^ k % 2 ^ 8) ⊕ (b / 2 ^ k % 2 ^ 8)
byte_of_sum a b k = ap (λ x. x % 2 ^ 8) (xor_shr a b k) ∙ xor_mod (a / 2 ^ k) (b / 2 ^ k) 8

bytes_of_sum : (a b : ℕ) → to_be_bytes w32 (a ⊕ b) ≡ sum_of_bytes (to_be_bytes w32 a) (to_be_bytes w32 b)
unfolding sum_of_bytes
bytes_of_sum a b =
    ap₂ ◌∷◌ (byte_of_sum a b 24) (ap₂ ◌∷◌ (byte_of_sum a b 16) (ap₂ ◌∷◌ (byte_of_sum a b 8) (ap₂ ◌∷◌ (xor_mod a b 8) refl)))

-- ---- the words that a byte makes

-- the word of a byte in the first row, where the first row of the matrix is these coefficients
abbrev pub word_of : ℕ → ℕ → ℕ → ℕ → ℕ → ℕ
word_of a b c d x = from_be_bytes w32 (a • x ∷ d • x ∷ c • x ∷ b • x ∷ [])

-- the bytes of that word, and of the word turned to each of the other rows
pub record HasWords (a b c d : ℕ) : Type 0 where
  pub row_0 : (x : ℕ) → x < 256 → to_be_bytes w32 (word_of a b c d x) ≡ a • x ∷ d • x ∷ c • x ∷ b • x ∷ []
  pub row_1 : (x : ℕ) → x < 256 → to_be_bytes w32 (rotate_right w32 (word_of a b c d x) 8) ≡ b • x ∷ a • x ∷ d • x ∷ c • x ∷ []
  pub row_2 : (x : ℕ) → x < 256 → to_be_bytes w32 (rotate_right w32 (word_of a b c d x) 16) ≡ c • x ∷ b • x ∷ a • x ∷ d • x ∷ []
  pub row_3 : (x : ℕ) → x < 256 → to_be_bytes w32 (rotate_right w32 (word_of a b c d x) 24) ≡ d • x ∷ c • x ∷ b • x ∷ a • x ∷ []

-- two functions to lists that agree at each byte, as computed
same_lists_at_bytes : (f g : ℕ → List ℕ) → map f (range_with_len 0 256) ≡ map g (range_with_len 0 256) → (x : ℕ) → x < 256 → f x ≡ g x
same_lists_at_bytes f g same x small =
    sym (get_or-map-range_with_len f 0 256 x x [] small (omega arith))
    ∙ ap (λ t. get_or t x []) same ∙ get_or-map-range_with_len g 0 256 x x [] small (omega arith)

pub mix_words : HasWords 2 3 1 1
unfolding ◌•◌ polynomial_product remainder
mix_words = record {
  row_0 = same_lists_at_bytes _ (λ x. 2 • x ∷ 1 • x ∷ 1 • x ∷ 3 • x ∷ []) refl;
  row_1 = same_lists_at_bytes _ (λ x. 3 • x ∷ 2 • x ∷ 1 • x ∷ 1 • x ∷ []) refl;
  row_2 = same_lists_at_bytes _ (λ x. 1 • x ∷ 3 • x ∷ 2 • x ∷ 1 • x ∷ []) refl;
  row_3 = same_lists_at_bytes _ (λ x. 1 • x ∷ 1 • x ∷ 3 • x ∷ 2 • x ∷ []) refl;
}

pub inv_mix_words : HasWords 14 11 13 9
unfolding ◌•◌ polynomial_product remainder
inv_mix_words = record {
  row_0 = same_lists_at_bytes _ (λ x. 14 • x ∷ 9 • x ∷ 13 • x ∷ 11 • x ∷ []) refl;
  row_1 = same_lists_at_bytes _ (λ x. 11 • x ∷ 14 • x ∷ 9 • x ∷ 13 • x ∷ []) refl;
  row_2 = same_lists_at_bytes _ (λ x. 13 • x ∷ 11 • x ∷ 14 • x ∷ 9 • x ∷ []) refl;
  row_3 = same_lists_at_bytes _ (λ x. 9 • x ∷ 13 • x ∷ 11 • x ∷ 14 • x ∷ []) refl;
}

-- ---- the column

module _ (a b c d : ℕ) (has : HasWords a b c d) where
  column_of_bytes : (x y z w : ℕ) → x < 256 → y < 256 → z < 256 → w < 256
      → to_be_bytes w32 (word_of a b c d x ⊕ rotate_right w32 (word_of a b c d y) 8 ⊕ rotate_right w32 (word_of a b c d z) 16 ⊕ rotate_right w32 (word_of a b c d w) 24)
      ≡ (a • x ⊕ b • y ⊕ c • z ⊕ d • w) ∷ (d • x ⊕ a • y ⊕ b • z ⊕ c • w) ∷ (c • x ⊕ d • y ⊕ a • z ⊕ b • w) ∷ (b • x ⊕ c • y ⊕ d • z ⊕ a • w) ∷ []
  unfolding sum_of_bytes
  column_of_bytes x y z w hx hy hz hw =
      bytes_of_sum _ _ ∙ ap₂ sum_of_bytes
      (bytes_of_sum _ _ ∙ ap₂ sum_of_bytes (bytes_of_sum _ _ ∙ ap₂ sum_of_bytes (has.row_0 x hx) (has.row_1 y hy)) (has.row_2 z hz)) (has.row_3 w hw)

  pub column_from : (s : List ℕ) (column : ℕ) (bytes : List ℕ) (first second third last second_turned third_turned last_turned : ℕ) → IsBlock s → column < 4
      → bytes ≡ to_be_bytes w32 (first ⊕ second_turned ⊕ third_turned ⊕ last_turned)
      → second_turned ≡ rotate_right w32 second 8 → third_turned ≡ rotate_right w32 third 16 → last_turned ≡ rotate_right w32 last 24
      → first ≡ word_of a b c d (byte_at s 0 column) → second ≡ word_of a b c d (byte_at s 1 column)
      → third ≡ word_of a b c d (byte_at s 2 column) → last ≡ word_of a b c d (byte_at s 3 column)
      → bytes ≡ mixed_column a b c d s column
  column_from s column bytes first second third last second_turned third_turned last_turned block h are_bytes turn_second turn_third turn_last is_first is_second is_third is_last =
      let x : ℕ = byte_at s 0 column in
      let y : ℕ = byte_at s 1 column in
      let z : ℕ = byte_at s 2 column in
      let w : ℕ = byte_at s 3 column in
      are_bytes
      ∙ ap (to_be_bytes w32) (ap₂ ◌⊕◌ (ap₂ ◌⊕◌ (ap₂ ◌⊕◌ is_first (turn_second ∙ ap (λ word. rotate_right w32 word 8) is_second))
      (turn_third ∙ ap (λ word. rotate_right w32 word 16) is_third)) (turn_last ∙ ap (λ word. rotate_right w32 word 24) is_last))
      ∙ column_of_bytes x y z w (byte_at-lt s 0 column block (omega arith) h) (byte_at-lt s 1 column block (omega arith) h)
      (byte_at-lt s 2 column block (omega arith) h) (byte_at-lt s 3 column block (omega arith) h)
      ∙ ap₂ ◌∷◌ refl (ap₂ ◌∷◌ (sym (turn (a • y) (b • z) (c • w) (d • x)))
      (ap₂ ◌∷◌ (sym (turn (a • z) (b • w) (c • x) (d • y) ∙ turn (d • y) (a • z) (b • w) (c • x)))
      (ap₂ ◌∷◌ (sym (turn (a • w) (b • x) (c • y) (d • z) ∙ turn (d • z) (a • w) (b • x) (c • y) ∙ turn (c • y) (d • z) (a • w) (b • x))) refl)))
