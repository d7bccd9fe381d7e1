use Rattle.std.proofs.Common.{ℕ, ◌≡◌, ◌∙◌, sym, ap, subst, refl, arith, length}
use Rattle.std.specs.List.{All}
use Rattle.trail_desk.specs.Held.{HeldState}
use Rattle.trail_desk.specs.Passes.{PassState, StandsIn}
use Rattle.trail_desk.proofs.Quantifiers.{all_behind, all_after}
use Rattle.trail_desk.proofs.held.Held.tell_all.Goals as goal

pub passes-init : goal.passes-init
passes-init g c =
    let same = sym c.from_vec-waiting.ensures.items in (
      refl,
      subst (All (λ (p : PassState g.row.C.Denot g.row.A.Denot g.row.G.Denot). p.table ≡ g.B.Room.table)) same c.requires.table,
      λ all. subst (All (StandsIn c.args.self.now.trail)) (sym same) all,
    )

pub passes-preserved : goal.passes-preserved
passes-preserved g c =
    let i = c.passes.invariant in
    let is = c.in-Some.ensures.items in
    let here = subst (λ (h : HeldState g.row.C.Denot g.row.A.Denot g.row.G.Denot). StandsIn h.trail c.in-Some.pass) i.0 c.tell.ensures.stands in (
      c.tell.ensures.held ∙ i.0,
      all_behind (λ (p : PassState g.row.C.Denot g.row.A.Denot g.row.G.Denot). p.table ≡ g.B.Room.table) c.passes.waiting.items c.pop_front.new.self.items c.in-Some.pass is i.1,
      λ later. all_after (StandsIn c.args.self.now.trail) c.args.passes.items c.passes.waiting.items c.pop_front.new.self.items c.in-Some.pass is i.2 here later,
    )

pub returns-clause-stand : goal.returns-clause-stand
returns-clause-stand g c = c.passes.invariant.2 (λ k d lt. absurd (omega (arith, c.in_default.ensures.cases.0, c.passes.waiting.ok.0)))
