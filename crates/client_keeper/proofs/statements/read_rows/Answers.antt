use Rattle.client_keeper.proofs.RowLemmas.{in_order_none}
use Rattle.client_keeper.proofs.statements.read_rows.Goals as goal

-- there is no row yet
pub loop-row-init : goal.loop-row-init
loop-row-init g c = in_order_none c.new-rows.result c.new-rows.ensures
