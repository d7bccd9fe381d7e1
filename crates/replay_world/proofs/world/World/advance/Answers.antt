use Rattle.std.proofs.Common.{◌≡◌, List, [], ◌∷◌, ◌++◌, length, arith, sym, ap, subst, ◌∙◌, length-append}
use Rattle.std.specs.Prelude.{◌↔◌, IsTrue, reverse}
use Rattle.sync_model.specs.declared.event.EventOutcome.{EventOutcome}
use Rattle.sync_model.specs.Clients.{Client}
use Rattle.sync_model.specs.Report.{is_void}
use Rattle.sync_model.specs.Worlds.{World}
use Rattle.replay_world.specs.declared.world.Stepped.TheVariants.{Void}
use Rattle.replay_world.specs.declared.happened.Happened.{Happened}
use Rattle.replay_world.specs.Outcomes.{outcomes_of}
use Rattle.replay_world.specs.Worlds.{IsRight}
use Rattle.replay_world.proofs.CountLemmas.{events_kept}
use Rattle.replay_world.proofs.WorldLemmas.{own_still, put_back, still_right, stepped_right, last_outcome}
use Rattle.replay_world.proofs.world.World.advance.Goals as goal

pub happen-requires-clause-room : goal.happen-requires-clause-room
happen-requires-clause-room c =
    omega (
      arith,
      c.requires.room,
      ap (λ (world : World). length world.outcomes) c.self.view_is,
      events_kept c.self.inside.server c.self.inside.happened.items,
      ap length c.deref.ensures.value,
      ap length c.in_ok-reserve.ensures.items,
    )

pub happen-requires-clause-own : goal.happen-requires-clause-own
happen-requires-clause-own c =
    own_still c.self.inside.clients.items c.deref_mut.result.now c.self.inside.happened.items c.deref.result.now c.deref_mut.ensures.value (c.deref.ensures.value ∙ c.in_ok-reserve.ensures.items) c.self.invariant.own

pub invariant_of-self-in_err-happened : goal.invariant_of-self-in_err-happened
invariant_of-self-in_err-happened c =
    let same : c.happen.new.clients ≡ c.self.inside.clients.items = c.in_err-happened.ensures.clients ∙ c.deref_mut.ensures.value in
    subst (λ (clients : List Client). IsRight c.self.inside.seed c.happen.new.server clients c.reserve.new.self.items c.self.inside.record)
    (sym (put_back c.self.inside.clients.items c.happen.new.clients c.self.inside.clients.len (omega (arith, c.self.inside.clients.ok)) (ap length same)))
    (still_right c.self.inside.seed c.self.inside.server c.happen.new.server c.self.inside.clients.items c.happen.new.clients c.self.inside.happened.items c.reserve.new.self.items c.self.inside.record
    c.self.invariant c.in_err-happened.ensures.server same c.in_ok-reserve.ensures.items)

pub invariant_of-self-2 : goal.invariant_of-self-2
invariant_of-self-2 c =
    subst (λ (clients : List Client). IsRight c.self.inside.seed c.happen.new.server clients c.push_reserved.new.self.items c.record_message.new.record)
    (sym (put_back c.self.inside.clients.items c.happen.new.clients c.self.inside.clients.len (omega (arith, c.self.inside.clients.ok)) ((c.in_ok-happened.ensures.steps 0).counted ∙ ap length c.deref_mut.ensures.value)))
    (stepped_right c.self.inside.seed c.self.inside.server c.happen.new.server c.self.inside.clients.items c.deref_mut.result.now c.happen.new.clients c.self.inside.happened.items c.deref.result.now c.push_reserved.new.self.items
    c.self.inside.record c.record_message.new.record c.args.event.now c.self.inside.settlements.items c.happen.new.settlements.items c.in_ok-happened.happened
    c.self.invariant (c.deref.ensures.value ∙ c.in_ok-reserve.ensures.items) c.deref_mut.ensures.value (c.in_ok-happened.ensures.steps c.self.inside.seed)
    (c.push_reserved.ensures.items ∙ ap (λ (items : List Happened). items ++ c.in_ok-happened.happened ∷ []) c.in_ok-reserve.ensures.items) c.record_message.ensures)

pub returns-clause-counted : goal.returns-clause-counted
returns-clause-counted c =
    omega (
      arith,
      events_kept c.happen.new.server c.push_reserved.new.self.items,
      ap length c.push_reserved.ensures.items,
      length-append c.reserve.new.self.items (c.in_ok-happened.happened ∷ []),
      ap length c.in_ok-reserve.ensures.items,
      events_kept c.self.inside.server c.self.inside.happened.items,
      ap (λ (world : World). length world.outcomes) c.self.view_is,
    )

pub returns-clause-void : goal.returns-clause-void
returns-clause-void c =
    subst (λ (outcome : EventOutcome). (c.stepped_by-answer.result ≡ Void) ↔ IsTrue (is_void outcome))
    (sym (last_outcome c.happen.new.server c.reserve.new.self.items c.push_reserved.new.self.items c.in_ok-happened.happened c.push_reserved.ensures.items))
    (c.stepped_by-answer.ensures c.happen.new.server (outcomes_of c.happen.new.server (reverse c.reserve.new.self.items)))
