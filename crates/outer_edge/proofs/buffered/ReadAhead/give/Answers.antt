use Rattle.std.proofs.Common.{rules, arith, sym, take}
use Rattle.std.proofs.lemmas.Grind.{common_steps}
use Rattle.outer_edge.proofs.Fronts.{front-and-rest}
use Rattle.outer_edge.proofs.buffered.ReadAhead.give.Goals as goal

-- the front that was given, and the rest
pub returns-clause-gave : goal.returns-clause-gave
returns-clause-gave c =
    front-and-rest c.min-count.result c.self.inside.start (take c.self.inside.end c.self.inside.bytes) c.args.self.now
    c.copy_from_slice.new.self _ (search rules) (grind (arith, common_steps)) (search rules)
