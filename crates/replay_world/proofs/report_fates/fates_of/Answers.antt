use Rattle.std.proofs.Common.{◌-◌, length, arith}
use Rattle.client_tags.specs.declared.Kind.TheVariants.{Nigori}
use Rattle.sync_model.specs.declared.fate.Fate.TheVariants.{Followed}
use Rattle.replay_world.proofs.FateLemmas.{table_none, table_more}
use Rattle.replay_world.proofs.report_fates.fates_of.Goals as goal

pub loop-place-init : goal.loop-place-init
loop-place-init c = table_none c.new-fates.result.entries c.args.settlements.now c.args.client c.args.kind (length c.args.settlements.now) c.new-fates.ensures.empty (omega arith)

pub loop-place-preserved : goal.loop-place-preserved
loop-place-preserved c =
    table_more c.loop-place.fates.entries c.put_fate.new.fates.entries c.args.settlements.now c.args.client c.args.kind (c.loop-place.place - 1) c.loop-place.place
    record { client = 0; kind = Nigori; number = 0; fate = Followed 0 } (omega arith) (omega arith) c.in_ok-put_fate.ensures c.loop-place.invariant
