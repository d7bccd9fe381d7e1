-- Vectors that are drawn one after another.
use Rattle.std.proofs.Common.{◌≡◌, ℕ, zero, suc, ◌+◌, ◌≤◌, arith, List, [], ◌∷◌, ◌++◌, Option, None, Some, Result, Ok, Err, refl, sym, ap, subst, ◌∙◌, inl, inr, ◌⊎◌, length-append, add-one}
use Rattle.std.specs.Option.{option_map, IfSome}
use Rattle.std.specs.Result.{OnErr}
use Rattle.random_vectors.specs.Vectors.{Place, vector_at, vectors_from, after_draw, after_draws}
use Rattle.type_worker.specs.Sending.{AreDrawn, MayHaveDrawn}
use Rattle.type_worker.specs.Sent.{IsDrawn}

after_one_more : (count : ℕ) (place : Place) → after_draws (suc count) place ≡ after_draw (after_draws count place)
unfolding after_draws
after_one_more zero place = refl
after_one_more (suc count) place = after_one_more count (after_draw place)

vectors_and_one : (count : ℕ) (place : Place) → vectors_from place (suc count) ≡ vectors_from place count ++ vector_at (after_draws count place) ∷ []
unfolding vectors_from after_draws
vectors_and_one zero place = refl
vectors_and_one (suc count) place = ap (λ (rest : List (List ℕ)). vector_at place ∷ rest) (vectors_and_one count (after_draw place))

no_vectors : (before : Option Place) → IfSome before (λ place. [] ≡ vectors_from place 0)
unfolding vectors_from
no_vectors None = tt
no_vectors (Some place) = refl

not_moved : (before : Option Place) → before ≡ option_map (after_draws 0) before
unfolding after_draws
not_moved None = refl
not_moved (Some place) = refl

-- nothing is drawn yet
pub none_drawn : (before : Option Place) → AreDrawn before before 0 []
none_drawn before = record { are_many = refl; are_next = no_vectors before; moved = not_moved before }

-- one more vector is drawn
pub one_more_drawn : (before mid now : Option Place) (count : ℕ) (vectors : List (List ℕ)) (vector : List ℕ) → AreDrawn before mid count vectors → IsDrawn mid now vector →
    AreDrawn before now (suc count) (vectors ++ vector ∷ [])
one_more_drawn None mid now count vectors vector are one = record {
  are_many = length-append vectors (vector ∷ []) ∙ ap (λ (len : ℕ). len + 1) are.are_many ∙ add-one count;
  are_next = tt;
  moved = one.moved ∙ ap (option_map after_draw) are.moved;
}
one_more_drawn (Some place) mid now count vectors vector are one = record {
  are_many = length-append vectors (vector ∷ []) ∙ ap (λ (len : ℕ). len + 1) are.are_many ∙ add-one count;
  are_next =
      ap (λ (list : List (List ℕ)). list ++ vector ∷ []) are.are_next
      ∙ ap (λ (last : List ℕ). vectors_from place count ++ last ∷ []) (subst (λ (at : Option Place). IfSome at (λ place. vector ≡ vector_at place)) are.moved one.is_next)
      ∙ sym (vectors_and_one count place);
  moved = one.moved ∙ ap (option_map after_draw) are.moved ∙ ap Some (sym (after_one_more count place));
}

-- so many were drawn at most
pub drawn_at_most : (before now : Option Place) (count most : ℕ) (vectors : List (List ℕ)) → AreDrawn before now count vectors → count ≤ most → MayHaveDrawn most before now
drawn_at_most before now count most vectors are le = record { count = count; at_most = le; moved = are.moved }

one_of_one : (place : Place) → after_draw place ≡ after_draws 1 place
unfolding after_draws
one_of_one place = refl

one_moved : (before : Option Place) → option_map after_draw before ≡ option_map (after_draws 1) before
one_moved None = refl
one_moved (Some place) = ap Some (one_of_one place)

-- one was drawn
pub one_at_most : (before now : Option Place) → now ≡ option_map after_draw before → MayHaveDrawn 1 before now
one_at_most before now moved = record { count = 1; at_most = omega arith; moved = moved ∙ one_moved before }

-- none was drawn
pub none_at_most : (most : ℕ) (before : Option Place) → MayHaveDrawn most before before
none_at_most most before = record { count = 0; at_most = omega arith; moved = not_moved before }

-- what holds anyway holds of an error
pub of_err : {A E P : Type 0} (answer : Result A E) → P → OnErr answer P
of_err (Ok value) holds = tt
of_err (Err fault) holds = holds

moved_on : (before mid now : Option Place) (count : ℕ) → mid ≡ option_map (after_draws count) before → now ≡ option_map (after_draws 1) mid →
    now ≡ option_map (after_draws (suc count)) before
moved_on None mid now count moved more = more ∙ ap (option_map (after_draws 1)) moved
moved_on (Some place) mid now count moved more =
    more ∙ ap (option_map (after_draws 1)) moved ∙ ap Some (sym (one_of_one (after_draws count place)) ∙ sym (after_one_more count place))

at_most_one : (count : ℕ) → count ≤ 1 → (count ≡ 0) ⊎ (count ≡ 1)
at_most_one count le = grind arith

-- one more may have been drawn
pub one_more_at_most : (before mid now : Option Place) (count most : ℕ) (vectors : List (List ℕ)) → AreDrawn before mid count vectors → suc count ≤ most →
    MayHaveDrawn 1 mid now → MayHaveDrawn most before now
one_more_at_most before mid now count most vectors are le one = by_count (at_most_one one.count one.at_most)
  where
    by_count : (one.count ≡ 0) ⊎ (one.count ≡ 1) → MayHaveDrawn most before now
    by_count (inl none) = record {
      count = count;
      at_most = omega (arith, le);
      moved = one.moved ∙ ap (λ (more : ℕ). option_map (after_draws more) mid) none ∙ sym (not_moved mid) ∙ are.moved;
    }
    by_count (inr some) = record {
      count = suc count;
      at_most = le;
      moved = moved_on before mid now count are.moved (one.moved ∙ ap (λ (more : ℕ). option_map (after_draws more) mid) some);
    }
