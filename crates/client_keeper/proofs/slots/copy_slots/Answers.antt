use Rattle.std.proofs.Common.{rules}
use Rattle.client_keeper.proofs.CopyLemmas.{copied_more}
use Rattle.client_keeper.proofs.slots.copy_slots.Goals as goal

-- one slot more
pub loop-key-preserved : goal.loop-key-preserved
loop-key-preserved c =
    copied_more c.loop-key.copies.entries c.put_copy.new.copies.entries c.args.slots.now.entries c.in-Some.key.now c.in-Some.value.now
    _ c.in_ok-put_copy.ensures c.iter-key-items.ensures.ordered (search rules)
