-- The vectors of the zero seed's stream 0 are the key stream of the zero key (RFC 8439, A.1, test vector 1).
use Rattle.std.proofs.Common.{◌≡◌, ℕ, [], ◌∷◌, replicate, refl}
use Rattle.rand_core.specs.Steps.{u32_at}
use Rattle.rand_chacha.specs.Block.{quarter_round, column_round, diagonal_round, double_rounds, block_word}
use Rattle.random_vectors.specs.Vectors.{Place, vector_at}

-- a place in the zero seed's stream 0
abbrev place_at : ℕ → Place
place_at drawn = record { seed = replicate 32 0; stream = 0; drawn = drawn }

pub first_vector : vector_at (place_at 0)
    ≡ 0x76 ∷ 0xb8 ∷ 0xe0 ∷ 0xad ∷ 0xa0 ∷ 0xf1 ∷ 0x3d ∷ 0x90 ∷ 0x40 ∷ 0x5d ∷ 0x6a ∷ 0xe5 ∷ 0x53 ∷ 0x86 ∷ 0xbd ∷ 0x28 ∷ []
unfolding vector_at u32_at block_word double_rounds diagonal_round quarter_round column_round
first_vector = refl

pub second_vector : vector_at (place_at 1)
    ≡ 0xbd ∷ 0xd2 ∷ 0x19 ∷ 0xb8 ∷ 0xa0 ∷ 0x8d ∷ 0xed ∷ 0x1a ∷ 0xa8 ∷ 0x36 ∷ 0xef ∷ 0xcc ∷ 0x8b ∷ 0x77 ∷ 0x0d ∷ 0xc7 ∷ []
unfolding vector_at u32_at block_word double_rounds diagonal_round quarter_round column_round
second_vector = refl
