use Rattle.std.proofs.Common.{[], ◌∷◌, ap, ◌∙◌, subst}
use Rattle.trail_desk.specs.Views.{keeping}
use Rattle.trail_desk.specs.Rules.{IsTold}
use Rattle.trail_desk.specs.Held.{HeldState, whole_now}
use Rattle.trail_desk.specs.Passes.{IsTrail}
use Rattle.trail_desk.specs.declared.entry.Opening.{Opening}
use Rattle.trail_desk.proofs.held.Held.read.Goals as goal

pub take_keeper-requires-clause-keeper : goal.take_keeper-requires-clause-keeper
take_keeper-requires-clause-keeper g c =
    let i = c.self.invariant in
    (whole_now i.opening c.self.inside.trail.items, ap (λ badge. badge.views) c.replace-keeper.ensures.value ∙ i.knows)

pub give_keeper-requires-clause-token : goal.give_keeper-requires-clause-token
give_keeper-requires-clause-token g c =
    let i = c.self.invariant in
    let whole = whole_now i.opening c.self.inside.trail.items in
    (whole, ap (λ me. me.0.whole) (c.take_keeper.ensures.taken whole (ap (λ badge. badge.views) c.replace-keeper.ensures.value ∙ i.knows)))

pub invariant_of-self : goal.invariant_of-self
invariant_of-self g c =
    let i = c.self.invariant in
    let whole = whole_now i.opening c.self.inside.trail.items in
    let taken = c.take_keeper.ensures.taken whole (ap (λ badge. badge.views) c.replace-keeper.ensures.value ∙ i.knows) in
    record {
      opening = i.opening;
      replay = i.replay;
      ascends = i.ascends;
      latest = i.latest;
      keeper_is = c.give_keeper.ensures.tables.1 ∙ c.take_keeper.ensures.table ∙ c.requires.table;
      knows = c.give_keeper.ensures.keeper ∙ ap (λ me. keeping me.0.whole ∷ []) taken;
    }

pub returns-clause-told : goal.returns-clause-told
returns-clause-told g c =
    let i = c.self.invariant in
    let told = c.take_keeper.ensures.told (whole_now i.opening c.self.inside.trail.items) (ap (λ badge. badge.views) c.replace-keeper.ensures.value ∙ i.knows) in
    subst
    (λ (s : HeldState g.row.C.Denot g.row.A.Denot g.row.G.Denot). (opening : Opening g.row.C.Denot) × IsTrail g.C.Core.steps opening s.trail s.core × IsTold c.args.token.now.me.0 (whole_now opening s.trail))
    c.self.view_is
    (i.opening, record { replay = i.replay; ascends = i.ascends; unmade = told.unmade }, told)
