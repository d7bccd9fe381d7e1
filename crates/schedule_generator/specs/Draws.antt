-- Random draws: words of a ChaCha8 stream, each modulo a limit.
use Rattle.std.specs.Prelude.{ℕ, ◌+◌, ◌%◌, ◌^◌}
use Rattle.rand_chacha.specs.ChaCha.{ChaCha, of_seed, word_at}
use Rattle.replay_messages.specs.Sealed.{stream_seed}

-- what a schedule's first draw is read from: the start of its seed's stream 0
unfoldable pub draws_of : ℕ → ChaCha
draws_of seed = of_seed (stream_seed seed)

-- a draw: the next word, modulo a limit
unfoldable pub draw : ℕ → ChaCha → ℕ
draw limit draws = word_at 4 draws.key draws.stream draws.word_pos % limit

-- what the next draw is read from
unfoldable pub rest : ChaCha → ChaCha
rest draws = record draws { word_pos = (draws.word_pos + 1) % 2 ^ 68 }
