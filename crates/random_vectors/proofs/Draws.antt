-- Sixteen bytes of a stream, from the start of a vector on.
use Rattle.std.proofs.Common.{rules, ◌≡◌, ℕ, ◌+◌, ◌*◌, ◌%◌, ◌^◌, ◌<◌, inl, inr, List, [], ◌++◌, take, refl, sym, ap, ap₂, ◌∙◌, arith}
use Rattle.std.proofs.Math.Nat.{mod-eq_of_lt, mod_self}
use Rattle.std.proofs.lemmas.Bool.{cases_eq}
use Rattle.std.specs.Int.{w32, to_le_bytes}
use Rattle.rand_core.specs.Steps.{fill_via_u32, word_bytes}
use Rattle.rand_chacha.specs.ChaCha.{ChaCha, key_of, word_at, next_word}
use Rattle.random_vectors.specs.Vectors.{Place, vector_at, after_draw}

-- the generator at a place of vectors
abbrev pub words_at : Place → ChaCha
words_at place = record { key = key_of place.seed; stream = place.stream; word_pos = 4 * place.drawn }

-- within a vector no place is past the stream's end
place_within : (drawn step : ℕ) → drawn < 2 ^ 66 → step < 4 → (4 * drawn + step) % 2 ^ 68 ≡ 4 * drawn + step
place_within drawn step below few = mod-eq_of_lt (omega (arith, below, few))

-- the place of the next word within a vector
place_after : (drawn step : ℕ) → drawn < 2 ^ 66 → step < 3 → (4 * drawn + step + 1) % 2 ^ 68 ≡ 4 * drawn + (step + 1)
place_after drawn step below few =
    ap (λ n. n % 2 ^ 68) {y = 4 * drawn + (step + 1)} (omega arith)
    ∙ place_within drawn (step + 1) below (omega (arith, few))

-- behind a vector the stream goes on with the next one, or begins anew
place_behind : (drawn : ℕ) → drawn < 2 ^ 66 → (4 * drawn + 3 + 1) % 2 ^ 68 ≡ 4 * ((drawn + 1) % 2 ^ 66)
place_behind drawn below =
    elim (cases_eq (drawn + 1) (2 ^ 66)) [
      | inl last ↦
          ap (λ n. n % 2 ^ 68) {y = 2 ^ 68} (omega (arith, last)) ∙ mod_self (2 ^ 68)
          ∙ sym (ap (λ n. 4 * (n % 2 ^ 66)) last ∙ ap (λ n. 4 * n) (mod_self (2 ^ 66)))
      | inr other ↦
          let stays = mod-eq_of_lt {n = drawn + 1} {m = 2 ^ 66} (omega (arith, below, other)) in
          mod-eq_of_lt {n = 4 * drawn + 3 + 1} {m = 2 ^ 68} (omega (arith, below, other)) ∙ omega (arith, stays)
    ]

-- the bytes of four words at these places, which follow each other
four_words : (g : ChaCha) (second third fourth behind : ℕ)
    → (g.word_pos + 1) % 2 ^ 68 ≡ second → (second + 1) % 2 ^ 68 ≡ third
    → (third + 1) % 2 ^ 68 ≡ fourth → (fourth + 1) % 2 ^ 68 ≡ behind
    → word_bytes (to_le_bytes w32) (next_word 10) 4 g
    ≡ (
      (((([] ++ to_le_bytes w32 (word_at 10 g.key g.stream g.word_pos))
          ++ to_le_bytes w32 (word_at 10 g.key g.stream second))
          ++ to_le_bytes w32 (word_at 10 g.key g.stream third)) ++ to_le_bytes w32 (word_at 10 g.key g.stream fourth)),
      record { key = g.key; stream = g.stream; word_pos = behind },
    )
unfolding word_bytes
four_words g second third fourth behind a b c d = search rules

-- a word of the vector's stream as bytes
abbrev bytes_at : Place → ℕ → List ℕ
bytes_at place word = to_le_bytes w32 (word_at 10 (key_of place.seed) place.stream word)

-- four words of the vector's stream as bytes
abbrev bytes_of : Place → ℕ → ℕ → ℕ → ℕ → List ℕ
bytes_of place first second third fourth =
    take 16 (((([] ++ bytes_at place first) ++ bytes_at place second) ++ bytes_at place third) ++ bytes_at place fourth)

-- the vector at a place, each word by its step from the first one
vector_steps : (place : Place) → vector_at place
    ≡ bytes_of place (4 * place.drawn) (4 * place.drawn + 1) (4 * place.drawn + 1 + 1) (4 * place.drawn + 1 + 1 + 1)
unfolding vector_at
vector_steps place = refl

-- the vector at a place, each word by its place
vector_words : (place : Place) → vector_at place
    ≡ bytes_of place (4 * place.drawn) (4 * place.drawn + 1) (4 * place.drawn + 2) (4 * place.drawn + 3)
vector_words place =
    vector_steps place ∙ ap₂ (λ third fourth. bytes_of place (4 * place.drawn) (4 * place.drawn + 1) third fourth)
    {y = 4 * place.drawn + 2} {v = 4 * place.drawn + 3} (omega arith) (omega arith)

pub is_vector : (place : Place) → place.drawn < 2 ^ 66
    → fill_via_u32 (next_word 10) 16 (words_at place) ≡ (vector_at place, words_at (after_draw place))
is_vector place below =
    ap (λ all. (take 16 all.0, all.1)) (four_words (words_at place) (4 * place.drawn + 1) (4 * place.drawn + 2)
    (4 * place.drawn + 3) (4 * ((place.drawn + 1) % 2 ^ 66))
    (place_within place.drawn 1 below (omega arith)) (place_after place.drawn 1 below (omega arith))
    (place_after place.drawn 2 below (omega arith)) (place_behind place.drawn below))
    ∙ ap (λ vector. (vector, words_at (after_draw place))) (sym (vector_words place))

-- what is drawn of a generator that stands at a place
pub drawn_at : (place : Place) (words : ChaCha) (drawn : List ℕ × ChaCha) → place.drawn < 2 ^ 66
    → words ≡ words_at place → drawn ≡ fill_via_u32 (next_word 10) 16 words → drawn ≡ (vector_at place, words_at (after_draw place))
drawn_at place words drawn below here filled =
    filled ∙ ap (fill_via_u32 (next_word 10) 16) here ∙ is_vector place below
