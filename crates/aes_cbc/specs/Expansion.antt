-- The expansion of a key of 16 bytes into the 44 words of its round keys (FIPS 197, section 5.2). A word is
-- four bytes.
use Rattle.std.specs.Prelude.{ℕ, zero, suc, ◌-◌, ◌*◌, ◌/◌, ◌%◌, ◌==◌, nat_lt, List, [], ◌∷◌, ◌++◌, map, take, drop, slice_index_or, if◌then◌else◌}
use Rattle.aes_cbc.specs.Field.{power_of_x}
use Rattle.aes_cbc.specs.Substitution.{sub_byte}
use Rattle.aes_cbc.specs.Block.{sum_of_bytes}

-- RotWord: the first byte moves to the end
abbrev pub rot_word : List ℕ → List ℕ
rot_word word = drop 1 word ++ take 1 word

-- SubWord: each byte goes through the S-box
abbrev pub sub_word : List ℕ → List ℕ
sub_word word = map sub_byte word

-- Rcon[n]: x^(n - 1), and three zeros
abbrev pub rcon : ℕ → List ℕ
rcon n = power_of_x (n - 1) ∷ 0 ∷ 0 ∷ 0 ∷ []

-- word i of the list
abbrev pub word_at : List (List ℕ) → ℕ → List ℕ
word_at words i = slice_index_or words i []

-- what is added to the word four places back: the word before, and in each fourth place that word rotated,
-- substituted and summed with the round constant
unfoldable pub round_addend : List ℕ → ℕ → List ℕ
round_addend before i =
    if i % 4 == 0 then sum_of_bytes (sub_word (rot_word before)) (rcon (i / 4)) else before

-- word i, from the words before it
unfoldable pub next_word : List ℕ → List (List ℕ) → ℕ → List ℕ
next_word key words i =
    if nat_lt i 4 then take 4 (drop (4 * i) key)
    else sum_of_bytes (word_at words (i - 4)) (round_addend (word_at words (i - 1)) i)

-- the first n words of the expansion
unfoldable pub first_words : List ℕ → ℕ → List (List ℕ)
first_words key zero = []
first_words key (suc n) = first_words key n ++ next_word key (first_words key n) n ∷ []

-- KeyExpansion: the words of the 11 round keys, four for each
unfoldable pub key_expansion : List ℕ → List (List ℕ)
key_expansion key = first_words key 44
