use Rattle.std.proofs.Common.{◌≡◌, [], ◌∷◌, ap, ◌∙◌, subst, Some, refl}
use Rattle.trail_desk.specs.declared.rule.Part.{Part}
use Rattle.trail_desk.specs.declared.rule.Whole.{Whole}
use Rattle.trail_desk.specs.Views.{keeping, sitting, shown, seen_of, own_of}
use Rattle.trail_desk.specs.Rules.{IsPartOf}
use Rattle.trail_desk.specs.Held.{whole_now}
use Rattle.trail_desk.specs.Passes.{PassState, IsTrail, Looked}
use Rattle.trail_desk.proofs.Acting.{both, part_of, sits_is, ready, taken_is, informed_is, left_is, given_is, looked, state_of}
use Rattle.trail_desk.proofs.held.Held.look.Goals as goal
use Rattle.trail_desk.proofs.held.Held.look.Goals.{After-take_keeper, After-see_trail}
use Rattle.trail_desk.proofs.held.Held.look.Given.{Over}

-- what the keeper knows
abbrev whole : (g : Over) → After-take_keeper g → Whole g.row.C.Denot g.row.A.Denot g.row.G.Denot
whole g c = whole_now c.self.invariant.opening c.self.inside.trail.items

-- what the pass's seat knows
abbrev part : (g : Over) → After-take_keeper g → Part g.row.A.Denot g.row.G.Denot
part g c = part_of c.pass.inside.seat c.pass.inside.token.me

began : (g : Over) (c : After-take_keeper g) → c.pass.inside.token.me.0.opening ≡ Some c.args.table.now.shared.key
began g c = ap (λ (old : PassState g.row.C.Denot g.row.A.Denot g.row.G.Denot). old.opening) c.pass.view_is ∙ c.requires.of_desk.opening

sits : (g : Over) (c : After-take_keeper g) → c.pass.inside.token.me ≡ (sitting (Some c.args.table.now.shared.key) (Some (part g c)), [])
sits g c = sits_is c.args.table.now.shared.key (part g c) c.pass.inside.token.me c.pass.invariant.token (began g c)

keeper_is : (g : Over) (c : After-take_keeper g) → c.replace-keeper.result.views ≡ keeping (Some (whole g c)) ∷ []
keeper_is g c = ap (λ badge. badge.views) c.replace-keeper.ensures.value ∙ c.self.invariant.knows

taken : (g : Over) (c : After-take_keeper g) → c.take_keeper.new.token.me ≡ (both c.args.table.now.shared.key (whole g c) (part g c), [])
taken g c = taken_is c.args.table.now.shared.key (whole g c) (part g c) c.pass.inside.token.me c.take_keeper.new.token.me (sits g c) (c.take_keeper.ensures.taken (whole g c) (keeper_is g c))

stands : (g : Over) (c : After-take_keeper g) → IsTrail g.C.Core.steps c.args.table.now.shared.key c.self.inside.trail.items c.self.inside.core × IsPartOf (whole_now c.args.table.now.shared.key c.self.inside.trail.items) (part g c)
stands g c =
    let i = c.self.invariant in
    ready g.C.Core.steps i.opening c.args.table.now.shared.key c.self.inside.trail.items c.self.inside.core c.pass.inside.token.me (part g c)
    (sits g c) i.replay i.ascends (c.take_keeper.ensures.told (whole g c) (keeper_is g c))

pub take_keeper-requires-clause-keeper : goal.take_keeper-requires-clause-keeper
take_keeper-requires-clause-keeper g c =
    let i = c.self.invariant in
    (whole_now i.opening c.self.inside.trail.items, ap (λ badge. badge.views) c.replace-keeper.ensures.value ∙ i.knows)

pub see_trail-requires-clause-token : goal.see_trail-requires-clause-token
see_trail-requires-clause-token g c =
    let t = (goal.at.see_trail-requires-clause-token g c).After-take_keeper in
    (whole g t, ap (λ me. me.0.whole) (taken g t))

seen : (g : Over) (c : After-see_trail g) → c.see_trail.new.token.me ≡ (
  both c.args.table.now.shared.key (whole_now c.self.invariant.opening c.self.inside.trail.items)
      (shown c.self.inside.trail.items (part_of c.pass.inside.seat c.pass.inside.token.me)),
  [],
)
seen g c =
    let t = (goal.at.After-see_trail g c).After-take_keeper in
    informed_is c.args.table.now.shared.key (whole g t) (part g t) c.take_keeper.new.token.me c.see_trail.new.token.me (taken g t) c.see_trail.ensures.seen

pub give_keeper-requires-clause-token : goal.give_keeper-requires-clause-token
give_keeper-requires-clause-token g c =
    let t = (goal.at.give_keeper-requires-clause-token g c).After-see_trail in
    (whole_now c.self.invariant.opening c.self.inside.trail.items, ap (λ me. me.0.whole) (seen g t))

pub invariant_of-self : goal.invariant_of-self
invariant_of-self g c =
    let i = c.self.invariant in
    let t = (goal.at.invariant_of-self g c).After-see_trail in
    record {
      opening = i.opening;
      replay = i.replay;
      ascends = i.ascends;
      latest = i.latest;
      keeper_is = c.give_keeper.ensures.tables.1 ∙ c.see_trail.ensures.table ∙ c.take_keeper.ensures.table ∙ ap (λ (old : PassState g.row.C.Denot g.row.A.Denot g.row.G.Denot). old.table) c.pass.view_is ∙ c.requires.of_desk.table ∙ c.requires.room.0;
      knows = given_is c.args.table.now.shared.key (whole_now i.opening c.self.inside.trail.items) _ _ _ (seen g t) c.give_keeper.ensures.keeper;
    }

pub returns : goal.returns
returns g c =
    let p = c.pass.inside in
    let t = (goal.at.returns g c).After-see_trail in
    let s = (goal.at.returns g c).After-take_keeper in
    let left = left_is c.args.table.now.shared.key (whole g s) (shown c.self.inside.trail.items (part g s)) c.see_trail.new.token.me c.give_keeper.new.token.me (seen g t) c.give_keeper.ensures.left in
    let known = stands g s in
    let now = state_of c.give_keeper.new.token.table_id p.seat p.calls p.last c.give_keeper.new.token.me in (
      c.self.inside.core,
      subst
          (λ (old : PassState g.row.C.Denot g.row.A.Denot g.row.G.Denot). Looked g.C.Core.steps c.args.table.now.shared.key old now c.self.inside.core)
          c.pass.view_is
          (looked g.C.Core.steps p.token.table_id c.give_keeper.new.token.table_id c.args.table.now.shared.key p.seat p.calls p.last c.self.inside.trail.items p.token.me c.give_keeper.new.token.me c.self.inside.core
          c.pass.invariant (began g s) (c.give_keeper.ensures.tables.0 ∙ c.see_trail.ensures.table ∙ c.take_keeper.ensures.table) known.0 known.1 left),
      (_, c.look.ensures, refl),
    )
