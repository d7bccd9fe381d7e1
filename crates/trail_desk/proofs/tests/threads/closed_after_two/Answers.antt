use Rattle.std.proofs.Common.{ℕ, ◌<◌, ◌^◌, sym, subst}
use Rattle.trail_desk.specs.Passes.{DeskName}
use Rattle.trail_desk.proofs.tests.threads.closed_after_two.Goals as goal

pub by_two-requires-clause-takes : goal.by_two-requires-clause-takes
by_two-requires-clause-takes g c κs within =
    subst (λ (desk : DeskName g.row.C.Denot). (act : ℕ) → act < 2 ^ 32 → g.C.Core.takes desk.opening.core act) (sym c.named-desk.ensures.desk) c.requires.takes
