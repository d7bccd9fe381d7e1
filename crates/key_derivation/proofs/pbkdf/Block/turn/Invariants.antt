use Rattle.std.proofs.Common.{ℕ, ◌+◌, ◌≤◌, List, []}
use Rattle.key_derivation.specs.Keyed.{Holds}
use Rattle.key_derivation.specs.Turning.{IsAfter}
use Rattle.key_derivation.proofs.pbkdf.Block.turn.Given as goal

abbrev pub invariant-loop-turn : goal.invariant-loop-turn
invariant-loop-turn l = (pass text : List ℕ) (before : ℕ) → 1 ≤ before → Holds l.keyed pass [] → IsAfter l.fn.self pass text before
    → IsAfter l.self pass text (before + l._turn)
