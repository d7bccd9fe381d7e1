-- What is so of each of some things.
use Rattle.std.proofs.Common.{ℕ, zero, suc, List, [], ◌∷◌, ◌++◌, take, drop}
use Rattle.sync_model.specs.KeyFacts.{Each}

-- each of two lists is so
pub Each-append : {X : Type 0} (Is : X → Type 0) (first second : List X) → Each Is first → Each Is second → Each Is (first ++ second)
Each-append Is [] second one other = other
Each-append Is (x ∷ first) second one other = (one.0, Each-append Is first second one.1 other)

-- so is each of the last
pub Each-drop : {X : Type 0} (Is : X → Type 0) (count : ℕ) (xs : List X) → Each Is xs → Each Is (drop count xs)
Each-drop Is zero xs each = each
Each-drop Is (suc count) [] each = tt
Each-drop Is (suc count) (x ∷ xs) each = Each-drop Is count xs each.1

-- so is each of the first
pub Each-take : {X : Type 0} (Is : X → Type 0) (count : ℕ) (xs : List X) → Each Is xs → Each Is (take count xs)
Each-take Is zero xs each = tt
Each-take Is (suc count) [] each = tt
Each-take Is (suc count) (x ∷ xs) each = (each.0, Each-take Is count xs each.1)
