use Rattle.std.proofs.Common.{◌-◌, length}
use Rattle.version_chain.proofs.Walks.{IsBack}
use Rattle.version_chain.proofs.chain.Chain.above.Given as goal

abbrev pub invariant-loop-place : goal.invariant-loop-place
invariant-loop-place g l = IsBack l.mark l.self-inside.nodes.items l.self-inside.order.slots l.place l.above.first l.above.count

abbrev pub decreases-loop-place : goal.decreases-loop-place
decreases-loop-place g l = length l.self-inside.order.slots - l.above.count
