-- Fronts of trails, and the steps of a seat.
use Rattle.std.proofs.Common.{◌≡◌, ◌≢◌, ℕ, ◌+◌, ◌<◌, List, [], ◌∷◌, ◌++◌, length, Bool, true, false, cond, eqb, eq-eqb, ne_eqb, refl, sym, ap, ◌∙◌, subst, append_assoc, arith}
use Rattle.std.proofs.lemmas.List.{append-nil}
use Rattle.std.proofs.lemmas.List.Elements.{filter-append}
use Rattle.trail_desk.specs.declared.entry.Entry.{Entry}
use native.Mathlib.Decide.{ℕ_discrete}
use Rattle.trail_desk.specs.Trails.{of_seat, BeginsWith, IsSeat}

module _ {A G : Type 0} where
  -- a front of a trail is one of the trail after more steps
  pub front-push : (front trail : List (Entry A G)) (entry : Entry A G) → BeginsWith front trail → BeginsWith front (trail ++ entry ∷ [])
  front-push front trail entry (rest, is) = (rest ++ entry ∷ [], ap (λ l. l ++ entry ∷ []) is ∙ append_assoc front rest (entry ∷ []))

  -- a trail is a front of itself
  pub front-same : (trail : List (Entry A G)) → BeginsWith trail trail
  front-same trail = ([], sym (append-nil trail))

  -- no step is a front of each trail
  pub front-nil : (trail : List (Entry A G)) → BeginsWith [] trail
  front-nil trail = (trail, refl)

  -- a step of another seat leaves the seat's steps
  pub of_seat-other : (seat : ℕ) (trail : List (Entry A G)) (entry : Entry A G) → entry.seat ≢ seat → of_seat seat (trail ++ entry ∷ []) ≡ of_seat seat trail
  of_seat-other seat trail entry apart =
      filter-append (λ (e : Entry A G). eqb e.seat seat) trail (entry ∷ [])
      ∙ ap (λ (b : Bool). of_seat seat trail ++ cond b (entry ∷ []) []) (ne_eqb entry.seat seat apart)
      ∙ append-nil (of_seat seat trail)

  -- a step of the seat is the seat's last
  pub of_seat-push : (seat : ℕ) (trail : List (Entry A G)) (entry : Entry A G) → entry.seat ≡ seat → of_seat seat (trail ++ entry ∷ []) ≡ of_seat seat trail ++ entry ∷ []
  of_seat-push seat trail entry same =
      filter-append (λ (e : Entry A G). eqb e.seat seat) trail (entry ∷ [])
      ∙ ap (λ (b : Bool). of_seat seat trail ++ cond b (entry ∷ []) []) (eq-eqb entry.seat seat same)

  none_behind : (entry : Entry A G) (rest : List (Entry A G)) → entry.seat ≡ 1 → ((seat : ℕ) → seat ≢ 1 → of_seat seat (entry ∷ rest) ≡ []) → (seat : ℕ) → seat ≢ 1 → of_seat seat rest ≡ []
  none_behind entry rest is none seat other =
      ap (λ (b : Bool). cond b (entry ∷ of_seat seat rest) (of_seat seat rest)) (sym (ne_eqb entry.seat seat (λ e. other (sym e ∙ is)))) ∙ none seat other

  first_one : (entry : Entry A G) (rest : List (Entry A G)) → ((seat : ℕ) → seat ≢ 1 → of_seat seat (entry ∷ rest) ≡ []) → Dec (entry.seat ≡ 1) → entry.seat ≡ 1
  first_one entry rest none (yes is) = is
  first_one entry rest none (no off) =
      let some : entry ∷ of_seat entry.seat rest ≡ [] =
      ap (λ (b : Bool). cond b (entry ∷ of_seat entry.seat rest) (of_seat entry.seat rest)) (sym (eq-eqb entry.seat entry.seat refl)) ∙ none entry.seat off in
      absurd (cc)

  one_seat_at : (trail : List (Entry A G)) → ((seat : ℕ) → seat ≢ 1 → of_seat seat trail ≡ []) → of_seat 1 trail ≡ trail
  one_seat_at [] none = refl
  one_seat_at (entry ∷ rest) none =
      let is = first_one entry rest none (ℕ_discrete entry.seat 1) in
      ap (λ (b : Bool). cond b (entry ∷ of_seat 1 rest) (of_seat 1 rest)) (eq-eqb entry.seat 1 is)
      ∙ ap (λ (l : List (Entry A G)). entry ∷ l) (one_seat_at rest (none_behind entry rest is none))

  -- the trail of a desk with one seat is that seat's steps
  pub one_seat : (seats seat : ℕ) (trail : List (Entry A G)) → seats ≡ 1 → IsSeat seats seat → ((other : ℕ) → ¬ IsSeat seats other → of_seat other trail ≡ []) → of_seat seat trail ≡ trail
  one_seat seats seat trail one is none =
      let first : seat ≡ 1 = omega (arith, is.0, is.1) in
      ap (λ (n : ℕ). of_seat n trail) first ∙ one_seat_at trail (λ other off. none other (λ (made : IsSeat seats other). off (omega (arith, made.0, made.1))))
