use Rattle.std.proofs.Common.{sym, arith}
use Rattle.std.proofs.lemmas.List.{append-nil}
use Rattle.sync_model.specs.Report.{entity_lines}
use Rattle.replay_world.proofs.EntityLemmas.{entities_more}
use Rattle.replay_world.proofs.report_entities.write_last.Goals as goal

pub loop-place-init : goal.loop-place-init
unfolding entity_lines
loop-place-init c = sym (append-nil c.args.out.now.items)

pub loop-place-preserved : goal.loop-place-preserved
loop-place-preserved c =
    entities_more c.args.writes.now c.loop-place.place c.index-writes-place.result c.args.bases.now c.is_base.result c.args.out.now.items c.loop-place.out.items c.write_unless.new.out.items
    c.requires.based c.requires.bases (omega arith) c.index-writes-place.is c.is_base.ensures
    c.loop-place.invariant c.in_ok-write_unless.ensures
