use Rattle.std.proofs.Common.{◌≡◌, List, [], ◌∷◌, ◌++◌, ◌+◌, Option, Some, map, sym, ap, ◌∙◌, arith}
use Rattle.std.proofs.lemmas.List.FromFn.{map-range_with_len_more}
use Rattle.std.specs.List.{range_with_len}
use Rattle.atomic_table.specs.Seated.{TableId}
use Rattle.trail_desk.specs.declared.rule.Whole.{Whole}
use Rattle.trail_desk.specs.declared.entry.Opening.{Opening}
use Rattle.trail_desk.specs.Views.{sitting, new_part}
use Rattle.trail_desk.specs.Passes.{DeskName, PassState, new_pass}
use Rattle.trail_desk.proofs.pass.Pass.for_seats.Goals as goal
use Rattle.trail_desk.proofs.pass.Pass.for_seats.Goals.{After-make_seat-token}
use Rattle.trail_desk.proofs.pass.Pass.for_seats.Given.{Over}

-- what the keeper knows before the seat is made
abbrev whole : (g : Over) → After-make_seat-token g → Whole g.row.C.Denot g.row.A.Denot g.row.G.Denot
whole g c = record { opening = c.args.table.now.shared.key; made = c.loop-made.made; trail = [] }

seated : (g : Over) (c : After-make_seat-token g) → c.make_seat-token.result.me ≡ (sitting (Some c.args.table.now.shared.key) (Some (new_part (whole g c))), [])
seated g c = c.make_seat-token.ensures.made (whole g c) c.loop-made.invariant.1

pub new-requires : goal.new-requires
new-requires g c =
    let e = seated g (goal.at.new-requires g c).After-make_seat-token in
    e ∙ ap (λ (began : Option (Opening g.row.C.Denot)). (sitting began (Some (record { seat = c.loop-made.made + 1; seen = []; own = [] })), [])) (sym (ap (λ me. me.0.opening) e))

pub loop-made-preserved : goal.loop-made-preserved
loop-made-preserved g c =
    let t = (goal.at.loop-made-preserved g c).After-make_seat-token in
    let name : DeskName g.row.C.Denot = record { table = c.args.table.now.shared.table_id; opening = c.args.table.now.shared.key } in
    let table : c.new.result.table ≡ name.table = c.new.ensures.table ∙ c.make_seat-token.ensures.tables.1 ∙ c.loop-made.invariant.0 in
    let began : c.new.result.opening ≡ Some name.opening = c.new.ensures.opening ∙ ap (λ me. me.0.opening) (seated g t) in
    let made : c.new.result ≡ new_pass name (c.loop-made.made + 1) =
    c.new.ensures.new
    ∙ ap (λ (at : TableId). record { table = at; opening = c.new.result.opening; seat = c.loop-made.made + 1; calls = 0; last = 0; seen = []; own = [] }) table
    ∙ ap (λ (o : Option (Opening g.row.C.Denot)). record { table = name.table; opening = o; seat = c.loop-made.made + 1; calls = 0; last = 0; seen = []; own = [] }) began in (
      c.make_seat-token.ensures.tables.0 ∙ c.loop-made.invariant.0,
      c.make_seat-token.ensures.kept (whole g t) c.loop-made.invariant.1,
      c.in_ok-push.ensures.items
          ∙ ap (λ (passes : List (PassState g.row.C.Denot g.row.A.Denot g.row.G.Denot)). passes ++ c.new.result ∷ []) c.loop-made.invariant.2
          ∙ ap (λ (pass : PassState g.row.C.Denot g.row.A.Denot g.row.G.Denot). map (new_pass name) (range_with_len 1 c.loop-made.made) ++ pass ∷ []) made
          ∙ sym (map-range_with_len_more (new_pass name) 1 c.loop-made.made (c.loop-made.made + 1) (omega arith)),
    )
