use Rattle.std.proofs.Common.{length, arith, ap}
use Rattle.replay_world.proofs.EntityLemmas.{base_within}
use Rattle.replay_world.proofs.report_entities.bases_of.Goals as goal

pub mark-requires : goal.mark-requires
mark-requires c =
    omega (
      arith,
      base_within c.args.writes.now c.loop-write.write-index c.write-item.result c.requires c.loop-write-test.true c.write-item.is,
      c.loop-write.invariant.long,
      ap length c.deref_mut.ensures.value,
    )
