-- Lists of words by their length and their words.
use Rattle.std.proofs.Common.{◌≡◌, ℕ, List, [], ◌∷◌, length, arith}
use Rattle.std.specs.Prelude.{Some, slice_get}

-- a list of length 1 is its word
pub one_word : (words : List (List ℕ)) (word : List ℕ) → length words ≡ 1 → slice_get words 0 ≡ Some word → words ≡ word ∷ []
one_word [] word just first = absurd (omega arith)
one_word (other ∷ []) word just first = cc
one_word (other ∷ next ∷ words) word just first = absurd (omega arith)

-- a list of length 3 is its words
pub three_words : (words : List (List ℕ)) (first second third : List ℕ) → length words ≡ 3 → slice_get words 0 ≡ Some first
    → slice_get words 1 ≡ Some second → slice_get words 2 ≡ Some third → words ≡ first ∷ second ∷ third ∷ []
three_words [] first second third just at_0 at_1 at_2 = absurd (omega arith)
three_words (a ∷ []) first second third just at_0 at_1 at_2 = absurd (omega arith)
three_words (a ∷ b ∷ []) first second third just at_0 at_1 at_2 = absurd (omega arith)
three_words (a ∷ b ∷ c ∷ []) first second third just at_0 at_1 at_2 = cc
three_words (a ∷ b ∷ c ∷ d ∷ words) first second third just at_0 at_1 at_2 = absurd (omega arith)
