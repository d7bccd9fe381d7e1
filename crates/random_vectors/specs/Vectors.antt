-- Initialization vectors as words of a random stream.
use Rattle.std.specs.Prelude.{ℕ, zero, suc, ◌+◌, ◌*◌, ◌%◌, ◌^◌, List, [], ◌∷◌}
use Rattle.std.specs.Int.{w32, to_le_bytes}
use Rattle.std.specs.List.{flat_map, range_with_len}
use Rattle.rand_chacha.specs.ChaCha.{word_at, key_of}

-- a place of a random stream: the seed of 32 bytes, the number of the stream, and how many vectors were drawn, counted
-- modulo 2^66
pub record Place : Type 0 where
  pub seed : List ℕ
  pub stream : ℕ
  pub drawn : ℕ

-- a word of the ChaCha20 stream (RFC 8439, 2.3, with a block counter of 64 bits)
abbrev pub stream_word : List ℕ → ℕ → ℕ → ℕ
stream_word seed stream place = word_at 10 (key_of seed) stream place

-- the vector at a place: the next four words of its stream, each from its lowest byte
unfoldable pub vector_at : Place → List ℕ
vector_at place =
    flat_map (λ word. to_le_bytes w32 (stream_word place.seed place.stream word)) (range_with_len (4 * place.drawn) 4)

-- the place after one more draw
abbrev pub after_draw : Place → Place
after_draw place = record place { drawn = (place.drawn + 1) % 2 ^ 66 }

-- the next vectors from a place on, so many of them
unfoldable pub vectors_from : Place → ℕ → List (List ℕ)
vectors_from place zero = []
vectors_from place (suc count) = vector_at place ∷ vectors_from (after_draw place) count

-- the place after so many more draws
unfoldable pub after_draws : ℕ → Place → Place
after_draws zero place = place
after_draws (suc count) place = after_draws count (after_draw place)
