use Rattle.replay_world.proofs.WorldLemmas.{opening_right, opening_is}
use Rattle.replay_world.proofs.world.World.new.Goals as goal

pub invariant_of-result : goal.invariant_of-result
invariant_of-result c =
    opening_right c.args.schedule.now.seed c.in_ok-new.field-0 c.in_ok-new_clients.field-0.items c.new-2.result.items c.new-4.result c.args.schedule.now.clients
    c.in_ok-new.ensures c.in_ok-new_clients.ensures c.new-2.ensures.items c.requires.clients c.new-4.ensures

pub returns : goal.returns
returns c =
    opening_is c.args.schedule.now.seed c.in_ok-new.field-0 c.in_ok-new_clients.field-0.items c.new-2.result.items c.new-3.result.items c.args.schedule.now.clients c.args.schedule.now.passes
    c.in_ok-new.ensures c.in_ok-new_clients.ensures c.new-2.ensures.items c.new-3.ensures.items c.requires.no_passes
