-- What one more step makes of a replay, of tickets and of numbers.
use Rattle.std.proofs.Common.{◌≡◌, ℕ, suc, ◌+◌, ◌<◌, ◌≤◌, List, [], ◌∷◌, ◌++◌, length, map, Bool, true, false, cond, eqb, refl, sym, ap, ◌∙◌, subst, arith, length-append}
use Rattle.std.specs.List.{range_with_len, filter}
use Rattle.std.proofs.lemmas.List.{map-append}
use Rattle.trail_desk.specs.declared.entry.Entry.{Entry}
use Rattle.trail_desk.specs.Trails.{of_seat, IsReplay, AscendAbove, last_ticket, AreNumbered}

module _ {C A G : Type 0} where
  -- a replay goes on by a step from its end
  pub replay-push : (steps : C → A → G → C → Type 0) (opening : C) (trail : List (Entry A G)) (core : C) (entry : Entry A G) (next : C)
      → IsReplay steps opening trail core → steps core entry.act entry.gave next → IsReplay steps opening (trail ++ entry ∷ []) next
  replay-push steps opening [] core entry next is step = (next, subst (λ (c : C). steps c entry.act entry.gave next) is step, refl)
  replay-push steps opening (first ∷ rest) core entry next is step = (is.0, is.1, replay-push steps is.0 rest core entry next is.2 step)

  -- what may be asked of the opening may be asked at each replay's end
  pub replay-takes : (steps : C → A → G → C → Type 0) (takes : C → A → Type 0)
      → ((old : C) (act : A) (gave : G) (new : C) (other : A) → steps old act gave new → takes old other → takes new other)
      → (opening : C) (trail : List (Entry A G)) (core : C) (act : A) → IsReplay steps opening trail core → takes opening act → takes core act
  replay-takes steps takes law opening [] core act is may = subst (λ (c : C). takes c act) (sym is) may
  replay-takes steps takes law opening (first ∷ rest) core act is may = replay-takes steps takes law is.0 rest core act is.2 (law opening first.act first.gave is.0 act is.1 may)

module _ {A G : Type 0} where
  pub ascend-push : (low : ℕ) (trail : List (Entry A G)) (entry : Entry A G) → AscendAbove low trail → last_ticket low trail < entry.ticket → AscendAbove low (trail ++ entry ∷ [])
  ascend-push low [] entry is above = (above, tt)
  ascend-push low (first ∷ rest) entry is above = (is.0, ascend-push first.ticket rest entry is.1 above)

  pub last_ticket-push : (low : ℕ) (trail : List (Entry A G)) (entry : Entry A G) → last_ticket low (trail ++ entry ∷ []) ≡ entry.ticket
  last_ticket-push low [] entry = refl
  last_ticket-push low (first ∷ rest) entry = last_ticket-push first.ticket rest entry

  numbers-push : (from : ℕ) (own : List (Entry A G)) (entry : Entry A G) → range_with_len from (length (own ++ entry ∷ [])) ≡ range_with_len from (length own) ++ (from + length own) ∷ []
  numbers-push from [] entry = ap (λ (n : ℕ). n ∷ []) (omega arith)
  numbers-push from (first ∷ rest) entry =
      ap (λ (l : List ℕ). from ∷ l) (numbers-push (from + 1) rest entry ∙ ap (λ (n : ℕ). range_with_len (from + 1) (length rest) ++ n ∷ []) (omega arith))

  -- the next number numbers one step more
  pub numbered-push : (own : List (Entry A G)) (entry : Entry A G) → AreNumbered own → entry.number ≡ length own + 1 → AreNumbered (own ++ entry ∷ [])
  numbered-push own entry is next =
      map-append (λ (e : Entry A G). e.number) own (entry ∷ [])
      ∙ ap (λ (l : List ℕ). l ++ entry.number ∷ []) is
      ∙ ap (λ (n : ℕ). range_with_len 1 (length own) ++ n ∷ []) (next ∙ omega arith)
      ∙ sym (numbers-push 1 own entry)

  -- a seat has no more steps than the trail
  pub length-of_seat : (seat : ℕ) (trail : List (Entry A G)) → length (of_seat seat trail) ≤ length trail
  length-of_seat seat [] = omega arith
  length-of_seat seat (first ∷ rest) = at (eqb first.seat seat) (length-of_seat seat rest)
    where
      at : (b : Bool) → length (of_seat seat rest) ≤ length rest → length (cond b (first ∷ of_seat seat rest) (of_seat seat rest)) ≤ length (first ∷ rest)
      at true le = omega arith
      at false le = omega arith
