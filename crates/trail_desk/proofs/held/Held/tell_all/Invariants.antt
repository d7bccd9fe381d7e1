use Rattle.std.proofs.Common.{◌≡◌, length}
use Rattle.std.specs.List.{All}
use Rattle.trail_desk.specs.Passes.{StandsIn}
use Rattle.trail_desk.proofs.held.Held.tell_all.Given as goal

-- those that wait are of this desk, and where they stand in the trail, all do
abbrev pub invariant-passes : goal.invariant-passes
invariant-passes g l =
    (l.self ≡ l.initial.self)
    × All (λ pass. pass.table ≡ g.B.Room.table) l.waiting.items
    × (All (StandsIn l.initial.self.trail) l.waiting.items → All (StandsIn l.initial.self.trail) l.fn.passes.items)

abbrev pub decreases-passes : goal.decreases-passes
decreases-passes g l = length l.waiting.items
