-- Bytes that were taken in part.
use Rattle.std.proofs.Common.{◌≡◌, ℕ, List, [], ◌++◌, take, drop, sym, ◌∙◌, ap, refl, append_assoc, append-nil}
use Rattle.std.specs.Prelude.{Option, Some, None, Result, Ok, Err, OnOk}
use Rattle.std.proofs.lemmas.List.{take-append-drop}
use Rattle.outer_edge.specs.Source.{grown, Grew}
use Rattle.outer_edge.proofs.Told.{grown-grown}
use Rattle.http_edge.specs.Written.{TookFront}

-- nothing was taken
pub TookFront-none : (before : Option (List ℕ)) (bytes : List ℕ) → TookFront before before bytes
TookFront-none None bytes = record { piece = []; rest = bytes; parts = refl; took = refl }
TookFront-none (Some told) bytes = record { piece = []; rest = bytes; parts = refl; took = ap Some (sym (append-nil told)) }

-- all was taken
pub TookFront-all : (before now : Option (List ℕ)) (bytes : List ℕ) → Grew before now bytes → TookFront before now bytes
TookFront-all before now bytes grew = record { piece = bytes; rest = []; parts = sym (append-nil bytes); took = grew }

-- so many bytes were taken
pub TookFront-take : (before now : Option (List ℕ)) (bytes : List ℕ) (count : ℕ) → Grew before now (take count bytes)
    → TookFront before now bytes
TookFront-take before now bytes count grew =
    record { piece = take count bytes; rest = drop count bytes; parts = sym (take-append-drop count bytes); took = grew }

-- of the first of two pieces
pub TookFront-first : (before now : Option (List ℕ)) (first second all : List ℕ) → first ++ second ≡ all
    → TookFront before now first → TookFront before now all
TookFront-first before now first second all joined front = record {
  piece = front.piece;
  rest = front.rest ++ second;
  parts = sym joined ∙ ap (λ bytes. bytes ++ second) front.parts ∙ append_assoc front.piece front.rest second;
  took = front.took;
}

-- all of the first of two pieces, and of the second one
pub TookFront-second : (before between now : Option (List ℕ)) (first second all : List ℕ) → first ++ second ≡ all
    → Grew before between first → TookFront between now second → TookFront before now all
TookFront-second before between now first second all joined grew front = record {
  piece = first ++ front.piece;
  rest = front.rest;
  parts = sym joined ∙ ap (λ bytes. first ++ bytes) front.parts ∙ sym (append_assoc first front.piece front.rest);
  took = front.took ∙ ap (λ told. grown told front.piece) grew ∙ grown-grown before first front.piece;
}

-- all of both
pub Grew-both : {T : Type 0} {E : Type 0} (result : Result T E) (before between now : Option (List ℕ)) (first second all : List ℕ)
    → first ++ second ≡ all → Grew before between first → OnOk result (Grew between now second)
    → OnOk result (Grew before now all)
Grew-both (Ok value) before between now first second all joined grew more =
    more ∙ ap (λ told. grown told second) grew ∙ grown-grown before first second ∙ ap (λ bytes. grown before bytes) joined
Grew-both (Err fault) before between now first second all joined grew more = more

-- a head with the front of a body, and then the rest of the body
pub in_two : (head front body : List ℕ) (along rest : List ℕ) → front ≡ head ++ along → along ++ rest ≡ body
    → front ++ rest ≡ head ++ body
in_two head front body along rest is_front is_body =
    ap (λ bytes. bytes ++ rest) is_front ∙ append_assoc head along rest ∙ ap (λ bytes. head ++ bytes) is_body
