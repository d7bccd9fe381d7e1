use Rattle.std.proofs.Common.{◌≡◌, ℕ, ◌+◌, ◌*◌, ◌/◌, ◌%◌, ◌<◌, length, get_or, []}
use Rattle.aes_cbc.proofs.schedule.Schedule.round_key.Given as goal

abbrev pub invariant-bytes : goal.invariant-bytes
invariant-bytes l = (length l.key ≡ 16) × ((k : ℕ) → k < l.i → get_or l.key k 0 ≡ get_or (get_or l.self (4 * l.round + k / 4) []) (k % 4) 0)
