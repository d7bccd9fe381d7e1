-- The seed of the streams, as an equation on one seed.
use Rattle.std.proofs.Common.{◌≡◌, [], ◌∷◌, ◌++◌, replicate, refl}
use Rattle.replay_messages.specs.Sealed.{stream_seed}

pub seed_row : stream_seed 0x0102030405060708 ≡ (1 ∷ 2 ∷ 3 ∷ 4 ∷ 5 ∷ 6 ∷ 7 ∷ 8 ∷ []) ++ replicate 24 0
seed_row = refl
