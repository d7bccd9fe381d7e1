-- What a call makes of a desk and of its pass, from what the atomic steps told.
use Rattle.std.proofs.Common.{◌≡◌, ℕ, ◌+◌, ◌<◌, ◌≤◌, ◌^◌, List, [], ◌∷◌, ◌++◌, length, Option, Some, None, refl, sym, ap, ◌∙◌, subst, arith, length-append}
use Rattle.atomic_table.specs.Seated.{TableId}
use Rattle.atomic_table.specs.Table.{Me}
use Rattle.trail_desk.specs.declared.entry.Entry.{Entry}
use Rattle.trail_desk.specs.declared.entry.Opening.{Opening}
use Rattle.trail_desk.specs.declared.rule.View.{View}
use Rattle.trail_desk.specs.declared.rule.Whole.{Whole}
use Rattle.trail_desk.specs.declared.rule.Part.{Part}
use Rattle.trail_desk.specs.Trails.{of_seat, BeginsWith, IsReplay, TicketsAscend, last_ticket, AreNumbered, IsSeat}
use Rattle.trail_desk.specs.Views.{keeping, sitting, with_keeper, without_keeper, seen_of, own_of, shown, informed, with_own, with_entry, entered}
use Rattle.trail_desk.specs.Rules.{IsPartOf, IsTold}
use Rattle.trail_desk.specs.Held.{whole_now, IsHeld, IsPass}
use Rattle.trail_desk.specs.Passes.{PassState, IsTrail, StandsIn, next_entry, Acted, Looked}
use Rattle.trail_desk.proofs.Trails.{front-push, front-same, of_seat-other, of_seat-push, one_seat}
use Rattle.trail_desk.proofs.Replays.{replay-push, ascend-push, last_ticket-push, numbered-push, length-of_seat}

module _ {C A G : Type 0} where
  -- a token that has its seat's part, and the keeper's view beside it
  abbrev pub both : Opening C → Whole C A G → Part A G → View C A G
  both opening whole part = record { opening = Some opening; whole = Some whole; part = Some part }

  -- the desk and the pass are of one opening, and the trail has the pass's part
  pub ready : (steps : C → A → G → C → Type 0) (opening mine : Opening C) (trail : List (Entry A G)) (core : C) (me : Me (Unit {0}) (View C A G)) (part : Part A G)
      → me ≡ (sitting (Some mine) (Some part), []) → IsReplay steps opening.core trail core → TicketsAscend trail → IsTold me.0 (whole_now opening trail)
      → IsTrail steps mine trail core × IsPartOf (whole_now mine trail) part
  ready steps opening mine trail core me part is replay ascends told =
      let at : IsTold (sitting (Some mine) (Some part)) (whole_now opening trail) = subst (λ (m : Me (Unit {0}) (View C A G)). IsTold m.0 (whole_now opening trail)) is told in
      subst
      (λ (o : Opening C). IsTrail steps o trail core × IsPartOf (whole_now o trail) part)
      (sym at.opening)
      (record { replay = replay; ascends = ascends; unmade = at.unmade }, at.part)

  -- a pass of this opening has this token
  pub sits_is : (mine : Opening C) (part : Part A G) (me : Me (Unit {0}) (View C A G)) → me ≡ (sitting me.0.opening (Some part), []) → me.0.opening ≡ Some mine → me ≡ (sitting (Some mine) (Some part), [])
  sits_is mine part me is began = is ∙ ap (λ (o : Option (Opening C)). (sitting o (Some part), [])) began

  -- the token after it took the keeper's view in
  pub taken_is : (mine : Opening C) (whole : Whole C A G) (part : Part A G) (me after : Me (Unit {0}) (View C A G))
      → me ≡ (sitting (Some mine) (Some part), []) → after ≡ (with_keeper me.0 (keeping (Some whole)), []) → after ≡ (both mine whole part, [])
  taken_is mine whole part me after is taken = taken ∙ ap (λ (m : Me (Unit {0}) (View C A G)). (with_keeper m.0 (keeping (Some whole)), [])) is

  -- the token after it entered a step
  pub entered_is : (mine : Opening C) (whole : Whole C A G) (part : Part A G) (entry : Entry A G) (me after : Me (Unit {0}) (View C A G))
      → me ≡ (both mine whole part, []) → after ≡ (entered entry me.0, []) → after ≡ (both mine (with_entry entry whole) (with_own whole.trail entry part), [])
  entered_is mine whole part entry me after is into = into ∙ ap (λ (m : Me (Unit {0}) (View C A G)). (entered entry m.0, [])) is

  -- the token after it saw the trail
  pub informed_is : (mine : Opening C) (whole : Whole C A G) (part : Part A G) (me after : Me (Unit {0}) (View C A G))
      → me ≡ (both mine whole part, []) → after ≡ (informed me.0, []) → after ≡ (both mine whole (shown whole.trail part), [])
  informed_is mine whole part me after is saw = saw ∙ ap (λ (m : Me (Unit {0}) (View C A G)). (informed m.0, [])) is

  -- the token after it gave the keeper's view back
  pub left_is : (mine : Opening C) (whole : Whole C A G) (part : Part A G) (me after : Me (Unit {0}) (View C A G))
      → me ≡ (both mine whole part, []) → after ≡ (without_keeper me.0, []) → after ≡ (sitting (Some mine) (Some part), [])
  left_is mine whole part me after is left = left ∙ ap (λ (m : Me (Unit {0}) (View C A G)). (without_keeper m.0, [])) is

  -- and the keeper
  pub given_is : (mine : Opening C) (whole : Whole C A G) (part : Part A G) (me : Me (Unit {0}) (View C A G)) (views : List (View C A G))
      → me ≡ (both mine whole part, []) → views ≡ keeping me.0.whole ∷ [] → views ≡ keeping (Some whole) ∷ []
  given_is mine whole part me views is given = given ∙ ap (λ (m : Me (Unit {0}) (View C A G)). keeping m.0.whole ∷ []) is

  -- a pass's next number fits
  pub fits_next : (mine : Opening C) (trail : List (Entry A G)) (part : Part A G) (calls bound : ℕ) → IsPartOf (whole_now mine trail) part → calls ≡ length part.own → length trail < bound → calls + 1 ≤ bound
  fits_next mine trail part calls bound is counted short =
      let few : length part.own ≤ length trail = subst (λ (l : List (Entry A G)). length l ≤ length trail) is.own (length-of_seat part.seat trail) in
      omega arith

  -- the desk after a step
  pub held_on : (steps : C → A → G → C → Type 0) (room keeper : TableId) (opening : Opening C) (trail after : List (Entry A G)) (core next : C) (last ticket : ℕ) (entry : Entry A G) (views : List (View C A G))
      → IsReplay steps opening.core trail core → TicketsAscend trail → last ≡ last_ticket 0 trail → keeper ≡ room
      → views ≡ keeping (Some (with_entry entry (whole_now opening trail))) ∷ [] → after ≡ trail ++ entry ∷ [] → steps core entry.act entry.gave next → last < ticket → entry.ticket ≡ ticket
      → IsHeld steps room next after ticket keeper views
  held_on steps room keeper opening trail after core next last ticket entry views replay ascends latest keeper_is knows pushed step above drawn =
      subst
      (λ (l : List (Entry A G)). IsHeld steps room next l ticket keeper views)
      (sym pushed)
      (record {
        opening = opening;
        replay = replay-push steps opening.core trail core entry next replay step;
        ascends = ascend-push 0 trail entry ascends (subst (λ (n : ℕ). n < entry.ticket) latest (subst (λ (n : ℕ). last < n) (sym drawn) above));
        latest = sym (last_ticket-push 0 trail entry ∙ drawn);
        keeper_is = keeper_is;
        knows = knows;
      })

  -- the desk after a step that was refused
  pub held_still : (steps : C → A → G → C → Type 0) (room keeper : TableId) (opening : Opening C) (trail after : List (Entry A G)) (core next : C) (last : ℕ) (views : List (View C A G))
      → IsReplay steps opening.core trail core → TicketsAscend trail → last ≡ last_ticket 0 trail → keeper ≡ room
      → views ≡ keeping (Some (whole_now opening trail)) ∷ [] → after ≡ trail → next ≡ core
      → IsHeld steps room next after last keeper views
  held_still steps room keeper opening trail after core next last views replay ascends latest keeper_is knows same_trail same_core =
      subst
      (λ (c : C). IsHeld steps room c after last keeper views)
      (sym same_core)
      (subst
      (λ (l : List (Entry A G)). IsHeld steps room core l last keeper views)
      (sym same_trail)
      (record { opening = opening; replay = replay; ascends = ascends; latest = latest; keeper_is = keeper_is; knows = knows }))

  -- the pass's token after a step
  pub pass_on : (mine : Opening C) (seat calls : ℕ) (trail seen own : List (Entry A G)) (entry : Entry A G) (me : Me (Unit {0}) (View C A G))
      → me ≡ (sitting (Some mine) (Some (with_own trail entry (record { seat = seat; seen = seen; own = own }))), []) → calls ≡ length own → AreNumbered own → entry.number ≡ calls + 1
      → IsPass seat (calls + 1) me
  pass_on mine seat calls trail seen own entry me is counted numbered next =
      subst
      (λ (m : Me (Unit {0}) (View C A G)). IsPass seat (calls + 1) m)
      (sym is)
      (record {
        token = refl;
        counted = omega (arith, counted, length-append own (entry ∷ []));
        numbered = numbered-push own entry numbered (next ∙ ap (λ (n : ℕ). n + 1) counted);
      })

  -- a seat that has a step was made, so one that was not made has none after it
  unmade_on : (opening : Opening C) (trail : List (Entry A G)) (entry : Entry A G) → IsSeat opening.seats entry.seat → ((seat : ℕ) → ¬ IsSeat opening.seats seat → of_seat seat trail ≡ [])
      → (seat : ℕ) → ¬ IsSeat opening.seats seat → of_seat seat (trail ++ entry ∷ []) ≡ []
  unmade_on opening trail entry made unmade seat off = of_seat-other seat trail entry (λ e. off (subst (IsSeat opening.seats) e made)) ∙ unmade seat off

  -- what a pass has of its token
  abbrev pub state_of : TableId → ℕ → ℕ → ℕ → Me (Unit {0}) (View C A G) → PassState C A G
  state_of table seat calls last me = record { table = table; opening = me.0.opening; seat = seat; calls = calls; last = last; seen = seen_of me.0.part; own = own_of me.0.part }

  -- what a pass's token knows of its seat
  abbrev pub part_of : ℕ → Me (Unit {0}) (View C A G) → Part A G
  part_of seat me = record { seat = seat; seen = seen_of me.0.part; own = own_of me.0.part }

  acted_at : (steps : C → A → G → C → Type 0) (table : TableId) (mine : Opening C) (seat calls last ticket : ℕ) (trail : List (Entry A G)) (me : Me (Unit {0}) (View C A G)) (core next : C) (act : A) (gave : G)
      → IsPass seat calls me → me.0.opening ≡ Some mine → IsTrail steps mine trail core → IsPartOf (whole_now mine trail) (part_of seat me)
      → steps core act gave next → last_ticket 0 trail < ticket → last < ticket
      → let entry = next_entry (state_of table seat calls last me) ticket act gave in
      Acted steps mine (state_of table seat calls last me) act gave (record { table = table; opening = Some mine; seat = seat; calls = calls + 1; last = ticket; seen = trail ++ entry ∷ []; own = own_of me.0.part ++ entry ∷ [] })
  acted_at steps table mine seat calls last ticket trail me core next act gave pass began is part step above later =
      let entry : Entry A G = record { seat = seat; number = calls + 1; ticket = ticket; act = act; gave = gave } in
      let own : List (Entry A G) = own_of me.0.part in
      record {
        table = refl;
        began = sym began;
        seat = refl;
        calls = refl;
        ticket = later;
        own = refl;
        seen = (part.seen.0, ap (λ (l : List (Entry A G)). l ++ entry ∷ []) part.seen.1);
        stands = record {
          seen = front-same (trail ++ entry ∷ []);
          own = of_seat-push seat trail entry refl ∙ ap (λ (l : List (Entry A G)). l ++ entry ∷ []) part.own;
          numbered = numbered-push own entry pass.numbered (ap (λ (n : ℕ). n + 1) pass.counted);
          counted = omega (arith, pass.counted, length-append own (entry ∷ []));
        };
        trail = (
          next,
          record {
            replay = replay-push steps mine.core trail core entry next is.replay step;
            ascends = ascend-push 0 trail entry is.ascends above;
            unmade = unmade_on mine trail entry part.made is.unmade;
          },
        );
      }

  -- a call that made a step did what its contract says
  pub acted : (steps : C → A → G → C → Type 0) (table now : TableId) (mine : Opening C) (seat calls last latest ticket : ℕ) (trail : List (Entry A G)) (me after : Me (Unit {0}) (View C A G)) (core next : C) (act : A) (gave told : G)
      → IsPass seat calls me → me.0.opening ≡ Some mine → now ≡ table → IsTrail steps mine trail core → IsPartOf (whole_now mine trail) (part_of seat me)
      → after ≡ (sitting (Some mine) (Some (with_own trail (next_entry (state_of table seat calls last me) ticket act gave) (part_of seat me))), [])
      → steps core act gave next → latest ≡ last_ticket 0 trail → latest < ticket → last < ticket → told ≡ gave
      → Acted steps mine (state_of table seat calls last me) act told (state_of now seat (calls + 1) ticket after)
  acted steps table now mine seat calls last latest ticket trail me after core next act gave told pass began same_table is part me_is step latest_is above later same =
      subst
      (λ (g : G). Acted steps mine (state_of table seat calls last me) act g (state_of now seat (calls + 1) ticket after))
      (sym same)
      (subst
      (λ (t : TableId). Acted steps mine (state_of table seat calls last me) act gave (state_of t seat (calls + 1) ticket after))
      (sym same_table)
      (subst
      (λ (m : Me (Unit {0}) (View C A G)). Acted steps mine (state_of table seat calls last me) act gave (state_of table seat (calls + 1) ticket m))
      (sym me_is)
      (acted_at steps table mine seat calls last ticket trail me core next act gave pass began is part step (subst (λ (n : ℕ). n < ticket) latest_is above) later)))

  -- a look did what its contract says
  pub looked : (steps : C → A → G → C → Type 0) (table now : TableId) (mine : Opening C) (seat calls last : ℕ) (trail : List (Entry A G)) (me after : Me (Unit {0}) (View C A G)) (core : C)
      → IsPass seat calls me → me.0.opening ≡ Some mine → now ≡ table → IsTrail steps mine trail core → IsPartOf (whole_now mine trail) (part_of seat me)
      → after ≡ (sitting (Some mine) (Some (shown trail (part_of seat me))), [])
      → Looked steps mine (state_of table seat calls last me) (state_of now seat calls last after) core
  looked steps table now mine seat calls last trail me after core pass began same_table is part me_is =
      subst
      (λ (t : TableId). Looked steps mine (state_of table seat calls last me) (state_of t seat calls last after) core)
      (sym same_table)
      (subst
      (λ (m : Me (Unit {0}) (View C A G)). Looked steps mine (state_of table seat calls last me) (state_of table seat calls last m) core)
      (sym me_is)
      (record {
        pass = ap (λ (o : Option (Opening C)). record { table = table; opening = o; seat = seat; calls = calls; last = last; seen = trail; own = own_of me.0.part }) (sym began);
        seen = part.seen;
        stands = record { seen = front-same trail; own = part.own; numbered = pass.numbered; counted = pass.counted };
        trail = is;
        alone = λ one. sym (one_seat mine.seats seat trail one part.made is.unmade) ∙ part.own;
      }))
