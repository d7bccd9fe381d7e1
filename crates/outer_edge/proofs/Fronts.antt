-- A front of bytes that is given, and the rest that stays.
use Rattle.std.proofs.Common.{◌≡◌, ℕ, ◌+◌, ◌≤◌, List, ◌++◌, length, take, drop, sym, ap, ◌∙◌, arith}
use Rattle.std.proofs.lemmas.List.{drop-drop, take-append-drop, length-take}
use Rattle.std.proofs.Math.Seq.{take-append_seam}

-- the front of so many bytes, with anything behind it
front-kept : (count : ℕ) (left room : List ℕ) → count ≤ length left → take count (take count left ++ room) ≡ take count left
front-kept count left room within =
    let just : length (take count left) ≡ count = grind (arith, length-take) in
    ap (λ n. take n (take count left ++ room)) (sym just) ∙ take-append_seam (take count left) room

-- what is left is its front, which was put into a room, and what stands behind that
pub front-and-rest : (count at : ℕ) (bytes left given room : List ℕ) → left ≡ drop at bytes → count ≤ length left
    → given ≡ take count left → left ≡ take count (given ++ room) ++ drop (at + count) bytes
front-and-rest count at bytes left given room is_left within is_given =
    sym (take-append-drop count left)
    ∙ ap (λ front. front ++ drop count left) (sym (front-kept count left room within) ∙ ap (λ front. take count (front ++ room)) (sym is_given))
    ∙ ap (λ rest. take count (given ++ room) ++ rest) (ap (drop count) is_left ∙ drop-drop count at bytes)
