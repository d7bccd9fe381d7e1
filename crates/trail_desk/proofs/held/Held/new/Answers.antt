use Rattle.std.proofs.Common.{[], sym, refl, subst}
use Rattle.trail_desk.specs.Held.{IsHeld}
use Rattle.trail_desk.proofs.held.Held.new.Goals as goal

pub invariant_of-result : goal.invariant_of-result
invariant_of-result g c =
    let k = c.requires.knows in
    subst
    (λ l. IsHeld g.C.Core.steps g.B.Room.table c.args.core l 0 c.args.keeper.table_id c.args.keeper.views)
    (sym c.requires.trail)
    (record {
      opening = k.0;
      replay = sym k.1;
      ascends = tt;
      latest = refl;
      keeper_is = c.requires.keeper;
      knows = k.2;
    })
