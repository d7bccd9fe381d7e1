use Rattle.std.proofs.Common.{◌≡◌, ◌+◌, ◌<◌, ◌≤◌, ◌^◌, ℕ, [], ◌∷◌, ◌++◌, length, ap, ◌∙◌, sym, subst, Some, refl, arith}
use Rattle.trail_desk.specs.declared.entry.Entry.{Entry}
use Rattle.trail_desk.specs.declared.rule.Part.{Part}
use Rattle.trail_desk.specs.declared.rule.Whole.{Whole}
use Rattle.trail_desk.specs.Views.{keeping, sitting, with_own, with_entry, seen_of, own_of}
use Rattle.trail_desk.specs.Rules.{IsPartOf}
use Rattle.trail_desk.specs.Held.{whole_now}
use Rattle.trail_desk.specs.Passes.{PassState, IsTrail, Acted}
use Rattle.trail_desk.proofs.Replays.{replay-takes}
use Rattle.trail_desk.proofs.Acting.{both, part_of, sits_is, ready, taken_is, entered_is, left_is, given_is, fits_next, held_on, held_still, pass_on, acted, state_of}
use Rattle.trail_desk.proofs.held.Held.act.Goals as goal
use Rattle.trail_desk.proofs.held.Held.act.Goals.{After-take_keeper, After-add_entry, After-give_keeper-2, In-Ok}
use Rattle.trail_desk.proofs.held.Held.act.Given.{Over}

-- what the keeper knows
abbrev whole : (g : Over) → After-take_keeper g → Whole g.row.C.Denot g.row.A.Denot g.row.G.Denot
whole g c = whole_now c.self.invariant.opening c.self.inside.trail.items

-- what the pass's seat knows
abbrev part : (g : Over) → After-take_keeper g → Part g.row.A.Denot g.row.G.Denot
part g c = part_of c.pass.inside.seat c.pass.inside.token.me

began : (g : Over) (c : After-take_keeper g) → c.pass.inside.token.me.0.opening ≡ Some c.args.table.now.shared.key
began g c = ap (λ (old : PassState g.row.C.Denot g.row.A.Denot g.row.G.Denot). old.opening) c.pass.view_is ∙ c.requires.of_desk.opening

sits : (g : Over) (c : After-take_keeper g) → c.pass.inside.token.me ≡ (sitting (Some c.args.table.now.shared.key) (Some (part g c)), [])
sits g c = sits_is c.args.table.now.shared.key (part g c) c.pass.inside.token.me c.pass.invariant.token (began g c)

keeper_is : (g : Over) (c : After-take_keeper g) → c.replace-keeper.result.views ≡ keeping (Some (whole g c)) ∷ []
keeper_is g c = ap (λ badge. badge.views) c.replace-keeper.ensures.value ∙ c.self.invariant.knows

taken : (g : Over) (c : After-take_keeper g) → c.take_keeper.new.token.me ≡ (both c.args.table.now.shared.key (whole g c) (part g c), [])
taken g c = taken_is c.args.table.now.shared.key (whole g c) (part g c) c.pass.inside.token.me c.take_keeper.new.token.me (sits g c) (c.take_keeper.ensures.taken (whole g c) (keeper_is g c))

stands : (g : Over) (c : After-take_keeper g) → IsTrail g.C.Core.steps c.args.table.now.shared.key c.self.inside.trail.items c.self.inside.core × IsPartOf (whole_now c.args.table.now.shared.key c.self.inside.trail.items) (part g c)
stands g c =
    let i = c.self.invariant in
    ready g.C.Core.steps i.opening c.args.table.now.shared.key c.self.inside.trail.items c.self.inside.core c.pass.inside.token.me (part g c)
    (sits g c) i.replay i.ascends (c.take_keeper.ensures.told (whole g c) (keeper_is g c))

-- the trail has room for one more step
short : (g : Over) (c : After-take_keeper g) → length c.self.inside.trail.items + 1 < 2 ^ 63
short g c =
    let v = c.reserve.new.self in
    omega (arith, c.in_ok-reserve.ensures.ok, v.ok.0, v.small, ap length c.reserve.ensures.items)

pub take_keeper-requires-clause-keeper : goal.take_keeper-requires-clause-keeper
take_keeper-requires-clause-keeper g c =
    let i = c.self.invariant in
    (whole_now i.opening c.self.inside.trail.items, ap (λ badge. badge.views) c.replace-keeper.ensures.value ∙ i.knows)

pub step-requires : goal.step-requires
step-requires g c =
    let t = (goal.at.step-requires g c).After-take_keeper in
    let known = (stands g t).0 in
    replay-takes g.C.Core.steps g.C.Core.takes g.met.C.Core.goes_on_taking c.args.table.now.shared.key.core c.self.inside.trail.items c.self.inside.core c.args.act known.replay c.requires.takes

pub overflow_add-number : goal.overflow_add-number
overflow_add-number g c =
    let t = (goal.at.overflow_add-number g c).After-take_keeper in
    let few = short g t in
    omega (arith, fits_next c.args.table.now.shared.key c.self.inside.trail.items (part g t) c.pass.inside.calls (2 ^ 63) (stands g t).1 c.pass.invariant.counted (omega arith))

pub add_entry-requires-clause-token : goal.add_entry-requires-clause-token
add_entry-requires-clause-token g c =
    let t = (goal.at.add_entry-requires-clause-token g c).After-take_keeper in
    let few = short g t in
    (whole g t, part g t, ap (λ me. me.0.whole) (taken g t), ap (λ me. me.0.part) (taken g t), refl, omega arith)

-- the step
abbrev entry : (g : Over) → In-Ok g → Entry g.row.A.Denot g.row.G.Denot
entry g c = record { seat = c.pass.inside.seat; number = c.pass.inside.calls + 1; ticket = c.draw_above-ticket.result; act = c.args.act; gave = c.in-Ok.gave }

added : (g : Over) (c : After-add_entry g) → c.add_entry.new.token.me ≡ (
  both c.args.table.now.shared.key
      (with_entry (entry g (goal.at.After-add_entry g c).In-Ok) (whole_now c.self.invariant.opening c.self.inside.trail.items))
      (with_own c.self.inside.trail.items (entry g (goal.at.After-add_entry g c).In-Ok) (part_of c.pass.inside.seat c.pass.inside.token.me)),
  [],
)
added g c =
    let t = (goal.at.After-add_entry g c).After-take_keeper in
    entered_is c.args.table.now.shared.key (whole g t) (part g t) (entry g (goal.at.After-add_entry g c).In-Ok) c.take_keeper.new.token.me c.add_entry.new.token.me (taken g t) c.add_entry.ensures.entered

pub give_keeper-requires-2-clause-token : goal.give_keeper-requires-2-clause-token
give_keeper-requires-2-clause-token g c =
    let e = (goal.at.give_keeper-requires-2-clause-token g c).After-add_entry in
    (_, ap (λ me. me.0.whole) (added g e))

pub invariant_of-self-2 : goal.invariant_of-self-2
invariant_of-self-2 g c =
    let i = c.self.invariant in
    let e = (goal.at.invariant_of-self-2 g c).After-add_entry in
    let o = (goal.at.invariant_of-self-2 g c).In-Ok in
    let drawn = c.draw_above-ticket.ensures in
    held_on g.C.Core.steps g.B.Room.table c.give_keeper-2.result.table_id i.opening c.self.inside.trail.items c.push_reserved.new.self.items c.self.inside.core c.step.new.self
    c.self.inside.last c.draw_above-ticket.result (entry g o) c.give_keeper-2.result.views
    i.replay i.ascends i.latest
    (c.give_keeper-2.ensures.tables.1 ∙ c.add_entry.ensures.table ∙ c.take_keeper.ensures.table ∙ ap (λ (old : PassState g.row.C.Denot g.row.A.Denot g.row.G.Denot). old.table) c.pass.view_is ∙ c.requires.of_desk.table ∙ c.requires.room.0)
    (given_is c.args.table.now.shared.key (with_entry (entry g o) (whole_now i.opening c.self.inside.trail.items)) _ _ _ (added g e) c.give_keeper-2.ensures.keeper)
    (c.push_reserved.ensures.items ∙ ap (λ l. l ++ entry g o ∷ []) c.reserve.ensures.items)
    c.in-Ok.ensures.steps
    (omega arith)
    refl

left : (g : Over) (c : After-give_keeper-2 g) → c.give_keeper-2.new.token.me ≡ (
  sitting (Some c.args.table.now.shared.key)
      (Some (with_own c.self.inside.trail.items (entry g (goal.at.After-give_keeper-2 g c).In-Ok) (part_of c.pass.inside.seat c.pass.inside.token.me))),
  [],
)
left g c =
    let e = (goal.at.After-give_keeper-2 g c).After-add_entry in
    let o = (goal.at.After-give_keeper-2 g c).In-Ok in
    left_is c.args.table.now.shared.key (with_entry (entry g o) (whole_now c.self.invariant.opening c.self.inside.trail.items)) _ c.add_entry.new.token.me c.give_keeper-2.new.token.me (added g e) c.give_keeper-2.ensures.left

pub invariant_of-pass-2 : goal.invariant_of-pass-2
invariant_of-pass-2 g c =
    let p = c.pass.inside in
    pass_on c.args.table.now.shared.key p.seat p.calls c.self.inside.trail.items (seen_of p.token.me.0.part) (own_of p.token.me.0.part) (entry g (goal.at.invariant_of-pass-2 g c).In-Ok) c.give_keeper-2.new.token.me
    (left g (goal.at.invariant_of-pass-2 g c).After-give_keeper-2) c.pass.invariant.counted c.pass.invariant.numbered refl

pub give_keeper-requires-clause-token : goal.give_keeper-requires-clause-token
give_keeper-requires-clause-token g c =
    let t = (goal.at.give_keeper-requires-clause-token g c).After-take_keeper in
    (whole g t, ap (λ me. me.0.whole) (taken g t))

pub invariant_of-self-in_default : goal.invariant_of-self-in_default
invariant_of-self-in_default g c =
    let i = c.self.invariant in
    let t = (goal.at.invariant_of-self-in_default g c).After-take_keeper in
    held_still g.C.Core.steps g.B.Room.table c.give_keeper.result.table_id i.opening c.self.inside.trail.items c.reserve.new.self.items c.self.inside.core c.step.new.self
    c.self.inside.last c.give_keeper.result.views
    i.replay i.ascends i.latest
    (c.give_keeper.ensures.tables.1 ∙ c.take_keeper.ensures.table ∙ ap (λ (old : PassState g.row.C.Denot g.row.A.Denot g.row.G.Denot). old.table) c.pass.view_is ∙ c.requires.of_desk.table ∙ c.requires.room.0)
    (given_is c.args.table.now.shared.key (whole_now i.opening c.self.inside.trail.items) _ _ _ (taken g t) c.give_keeper.ensures.keeper)
    c.reserve.ensures.items
    c.in_default.ensures.err

pub returns-clause-ok : goal.returns-clause-ok
returns-clause-ok g c =
    let p = c.pass.inside in
    let t = (goal.at.returns-clause-ok g c).After-take_keeper in
    let known = stands g t in
    let drawn = c.draw_above-ticket.ensures in
    let now = state_of c.give_keeper-2.new.token.table_id p.seat (p.calls + 1) c.draw_above-ticket.result c.give_keeper-2.new.token.me in
    subst
    (λ (old : PassState g.row.C.Denot g.row.A.Denot g.row.G.Denot). Acted g.C.Core.steps c.args.table.now.shared.key old c.args.act c.in-Ok.told now)
    c.pass.view_is
    (acted g.C.Core.steps p.token.table_id c.give_keeper-2.new.token.table_id c.args.table.now.shared.key p.seat p.calls p.last c.self.inside.last c.draw_above-ticket.result c.self.inside.trail.items p.token.me c.give_keeper-2.new.token.me
    c.self.inside.core c.step.new.self c.args.act c.in-Ok.gave c.in-Ok.told
    c.pass.invariant
    (began g t)
    (c.give_keeper-2.ensures.tables.0 ∙ c.add_entry.ensures.table ∙ c.take_keeper.ensures.table)
    known.0 known.1
    (left g (goal.at.returns-clause-ok g c).After-give_keeper-2)
    c.in-Ok.ensures.steps
    c.self.invariant.latest
    (omega arith)
    (omega arith)
    c.in-Ok.ensures.same)
