-- A loop that replaces the elements of one list by those of another in turn.
use Rattle.std.proofs.Common.{◌≡◌, ℕ, ◌+◌, ◌<◌, ◌≤◌, List, [], ◌∷◌, ◌++◌, length, take, drop, get_or, append_assoc, ap, sym, ◌∙◌, arith}
use Rattle.std.proofs.Math.ListN.{set}
use Rattle.std.proofs.lemmas.List.{append-nil, get_or_at, set_at, drop_all, drop_more, take_all, take_more, length-take-le}

-- the elements of ys before the place, and those of xs from there on
abbrev pub replaced : List ℕ → List ℕ → ℕ → List ℕ
replaced xs ys place = take place ys ++ drop place xs

-- the element at the place is still that of xs
pub replaced_at : (xs ys : List ℕ) (place : ℕ) → place < length xs → length ys ≡ length xs →
    get_or (replaced xs ys place) place 0 ≡ get_or xs place 0
replaced_at xs ys place inside long =
    ap (λ (after : List ℕ). get_or (take place ys ++ after) place 0) (drop_more xs place 0 inside)
    ∙ get_or_at (take place ys) (get_or xs place 0) (drop (place + 1) xs) 0 place (length-take-le place ys (omega (arith, inside, long)))

-- one element more
pub replaced_more : (xs ys : List ℕ) (place value : ℕ) → place < length xs → length ys ≡ length xs → value ≡ get_or ys place 0 →
    set (replaced xs ys place) place value ≡ replaced xs ys (place + 1)
replaced_more xs ys place value inside long is_value =
    ap (λ (after : List ℕ). set (take place ys ++ after) place value) (drop_more xs place 0 inside)
    ∙ set_at (take place ys) (get_or xs place 0) (drop (place + 1) xs) value place (length-take-le place ys (omega (arith, inside, long)))
    ∙ ap (λ (next : ℕ). take place ys ++ next ∷ drop (place + 1) xs) is_value
    ∙ sym (append_assoc (take place ys) (get_or ys place 0 ∷ []) (drop (place + 1) xs))
    ∙ ap (λ (front : List ℕ). front ++ drop (place + 1) xs) (sym (take_more ys place 0 (omega (arith, inside, long))))

-- at the end they are those of ys
pub replaced_all : (xs ys : List ℕ) (place : ℕ) → length xs ≤ place → length ys ≡ length xs → replaced xs ys place ≡ ys
replaced_all xs ys place past long =
    ap (λ (front : List ℕ). front ++ drop place xs) (take_all place ys (omega (arith, past, long)))
    ∙ ap (λ (after : List ℕ). ys ++ after) (drop_all place xs past)
    ∙ append-nil ys
