use Rattle.std.proofs.Common.{rules}
use Rattle.client_keeper.proofs.StoreLemmas.{none_more}
use Rattle.client_keeper.proofs.memory_place.find_store.Goals as goal

-- one store more does not have the name
pub loop-index-preserved : goal.loop-index-preserved
loop-index-preserved c =
    none_more c.args.name.now c.args.stores.now c.loop-index.index c.index-stores-index.result c.loop-index-test.true c.loop-index.invariant
    (search rules)
