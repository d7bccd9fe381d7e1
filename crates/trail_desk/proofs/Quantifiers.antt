-- What holds of each item of a list: of one that is emptied from its front, and of new passes.
use Rattle.std.proofs.Common.{◌≡◌, ℕ, suc, ◌<◌, List, [], ◌∷◌, ◌++◌, length, map, refl, sym, subst, arith}
use Rattle.std.specs.List.{All, AllByRecursion}
use Rattle.std.proofs.lemmas.List.Elements.{All-cons, All-nil, All-from_recursion, recursion_from_All}
use Rattle.trail_desk.specs.Passes.{DeskName, IsPassOf, new_pass}

module _ {X : Type 0} (P : X → Type 0) where
  -- what holds of each item holds of those behind the first
  pub all_behind : (waiting rest : List X) (x : X) → waiting ≡ x ∷ rest → All P waiting → All P rest
  all_behind waiting rest x is all k d lt =
      let whole : All P (x ∷ rest) = subst (All P) is all in
      whole (suc k) d (omega arith)

  -- where it held of all if it held of those that waited, it does so after one of them was found
  pub all_after : (all waiting rest : List X) (x : X) → waiting ≡ x ∷ rest → (All P waiting → All P all) → P x → All P rest → All P all
  all_after all waiting rest x is ahead here later = ahead (subst (All P) (sym is) (All-cons P x rest here later))

module _ {X : Type 0} (P : X → Type 0) where
  last_by : (front : List X) (x : X) → AllByRecursion P (front ++ x ∷ []) → P x × AllByRecursion P front
  last_by [] x all = (all.0, tt)
  last_by (y ∷ ys) x all = let behind = last_by ys x all.1 in (behind.0, (all.0, behind.1))

  -- what holds of each item holds of the last, and of those before it
  pub all_popped : (all front : List X) (x : X) → all ≡ front ++ x ∷ [] → All P all → P x × All P front
  all_popped all front x is each =
      let parts = last_by front x (recursion_from_All P (front ++ x ∷ []) (subst (All P) is each)) in
      (parts.0, All-from_recursion P front parts.1)

  push_by : (front : List X) (x : X) → AllByRecursion P front → P x → AllByRecursion P (front ++ x ∷ [])
  push_by [] x all here = (here, tt)
  push_by (y ∷ ys) x all here = (all.0, push_by ys x all.1 here)

  -- what holds of each item, and of one more, holds of each after that one was added
  pub all_pushed : (front all : List X) (x : X) → all ≡ front ++ x ∷ [] → All P front → P x → All P all
  all_pushed front all x is each here = subst (All P) (sym is) (All-from_recursion P (front ++ x ∷ []) (push_by front x (recursion_from_All P front each) here))

-- new passes are of their desk
pub of_desk : {C A G : Type 0} (desk : DeskName C) (seats : List ℕ) → All (IsPassOf {C = C} {A = A} {G = G} desk) (map (new_pass desk) seats)
of_desk {C} {A} {G} desk [] = All-nil (IsPassOf {C = C} {A = A} {G = G} desk)
of_desk {C} {A} {G} desk (seat ∷ rest) = All-cons (IsPassOf {C = C} {A = A} {G = G} desk) (new_pass desk seat) (map (new_pass desk) rest) (record { table = refl; opening = refl }) (of_desk desk rest)
