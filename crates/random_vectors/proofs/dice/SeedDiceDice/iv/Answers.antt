use Rattle.std.proofs.Common.{◌≡◌, ◌+◌, ap, ◌∙◌, arith}
use Rattle.std.proofs.Math.Nat.{mod-lt}
use Rattle.random_vectors.specs.Vectors.{Place, vector_at, after_draw}
use Rattle.random_vectors.proofs.Draws.{words_at, drawn_at}
use Rattle.random_vectors.proofs.dice.SeedDiceDice.iv.Goals as goal

-- where it stood
abbrev place_of : goal.After-self-1 → Place
place_of c = record { seed = c.self.inside.seed; stream = c.self.inside.stream; drawn = c.self.inside.drawn }

-- what it drew, and where the stream then stands
drawn : (c : goal.After-self-1)
    → (c.fill_bytes_via_u32.new.dst ≡ vector_at (place_of c))
    × (c.fill_bytes_via_u32.new.rng ≡ words_at (after_draw (place_of c)))
drawn c =
    let all = drawn_at (place_of c) c.self.inside.words _ c.self.invariant.0 c.self.invariant.1 c.fill_bytes_via_u32.ensures in
    (ap (λ both. both.0) all, ap (λ both. both.1) all)

-- src/dice.rt:65:5
pub invariant_of-self : goal.invariant_of-self
invariant_of-self c = (
  mod-lt (c.self.inside.drawn + 1) (omega arith),
  (drawn c).1,
)

-- src/dice.rt:65:5
pub returns-clause-vector : goal.returns-clause-vector
returns-clause-vector c =
    (drawn c).0
    ∙ ap vector_at c.self.view_is
