use Rattle.std.proofs.Common.{rules}
use Rattle.std.proofs.Math.Seq.{take-add}
use Rattle.std.proofs.lemmas.List.{drop-drop}
use Rattle.outer_edge.proofs.sure.SureSourceSource.read.Goals as goal

-- what came by then and the next front are one front
pub returns-clause-after : goal.returns-clause-after
returns-clause-after c = rw (← c.self.view_is, take-add, drop-drop) (search rules)
