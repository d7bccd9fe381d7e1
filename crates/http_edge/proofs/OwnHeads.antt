-- Where an empty line ends in a head that was written here.
use Rattle.std.proofs.Common.{codes, ◌≡◌, ℕ, ◌-◌, ◌<◌, List, [], ◌∷◌, ◌++◌, length, take, drop, Bool, true, false, not, ◌&&◌, ◌||◌, ◌==◌, refl, sym, ◌∙◌, ap, arith, inl, inr, append_assoc, length-drop}
use Rattle.std.specs.Str.Parse.{AllDigits}
use Rattle.std.proofs.lemmas.Bool.{and_parts, or_cases, ne_eqb, false≢true}
use Rattle.std.proofs.lemmas.Bool.Decides.{Decides-eqb}
use Rattle.std.proofs.lemmas.List.{take-append-drop}
use Rattle.std.proofs.lemmas.Str.Parse.{digit_from_value}
use Rattle.std.proofs.lemmas.Slice.Eq.{ends_is}
use Rattle.http_edge.specs.Heads.{ends_with_empty_line, EndsAtEmptyLine}

-- bytes follow
abbrev follows : List ℕ → Bool
follows [] = false
follows (b ∷ rest) = true

-- a line feed stands here, and bytes follow it
abbrev feeds : List ℕ → Bool
feeds [] = false
feeds (b ∷ rest) = b == 10 && follows rest

-- the end of an empty line stands here, and bytes follow it
abbrev goes_on : List ℕ → Bool
goes_on [] = false
goes_on (b ∷ rest) = feeds (b ∷ rest) || (b == 13 && feeds rest)

-- no empty line ends before the end of these bytes
abbrev pub is_quiet : List ℕ → Bool
is_quiet [] = true
is_quiet (b ∷ rest) = not (b == 10 && goes_on rest) && is_quiet rest

-- an empty line at a place is at the end
at_end : (front rest : List ℕ) → is_quiet (front ++ 10 ∷ 10 ∷ rest) ≡ true → rest ≡ []
at_end [] [] quiet = refl
at_end [] (b ∷ rest) quiet = absurd (false≢true quiet)
at_end (b ∷ front) rest quiet = at_end front rest (and_parts _ _ quiet).1

at_end_with_return : (front rest : List ℕ) → is_quiet (front ++ 10 ∷ 13 ∷ 10 ∷ rest) ≡ true → rest ≡ []
at_end_with_return [] [] quiet = refl
at_end_with_return [] (b ∷ rest) quiet = absurd (false≢true quiet)
at_end_with_return (b ∷ front) rest quiet = at_end_with_return front rest (and_parts _ _ quiet).1

-- a front that ends with an empty line is all
ends_all : (front rest : List ℕ) → is_quiet (front ++ rest) ≡ true → ends_with_empty_line front ≡ true → rest ≡ []
unfolding ends_with_empty_line
ends_all front rest quiet ends =
    elim (or_cases _ _ ends) [
      | inl feed ↦
          let parts = (ends_is Decides-eqb front (10 ∷ 10 ∷ []) true (sym feed)).0 refl in
          at_end (take (length front - 2) front) rest (sym (ap is_quiet (ap (λ f. f ++ rest) parts ∙ append_assoc _ (10 ∷ 10 ∷ []) rest)) ∙ quiet)
      | inr return ↦
          let parts = (ends_is Decides-eqb front (10 ∷ 13 ∷ 10 ∷ []) true (sym return)).0 refl in
          at_end_with_return (take (length front - 3) front) rest
          (sym (ap is_quiet (ap (λ f. f ++ rest) parts ∙ append_assoc _ (10 ∷ 13 ∷ 10 ∷ []) rest)) ∙ quiet)
    ]

-- such bytes that end with an empty line are a head
pub quiet_head : (head : List ℕ) → is_quiet head ≡ true → ends_with_empty_line head ≡ true → EndsAtEmptyLine head
quiet_head head quiet ends = record {
  ends = ends;
  first = λ count below. by_test count below (ends_with_empty_line (take count head)) refl;
}
  where
    by_test : (count : ℕ) → count < length head → (t : Bool) → ends_with_empty_line (take count head) ≡ t
        → ends_with_empty_line (take count head) ≡ false
    by_test count below false is_test = is_test
    by_test count below true is_test =
        let none = ends_all (take count head) (drop count head) (ap is_quiet (take-append-drop count head) ∙ quiet) is_test in
        absurd (omega (arith, ap length none, length-drop count head, below))

-- digits in front of such bytes
pub digits_quiet : (ds rest : List ℕ) → AllDigits 10 ds → is_quiet rest ≡ true → is_quiet (ds ++ rest) ≡ true
digits_quiet [] rest digits quiet = quiet
digits_quiet (d ∷ ds) rest (digit, digits) quiet =
    let range = digit_from_value d digit in
    ap (λ b. not (b && goes_on (ds ++ rest)) && is_quiet (ds ++ rest)) (ne_eqb d 10 (λ same. omega (arith, same, range.0)))
    ∙ digits_quiet ds rest digits quiet

-- the lines behind the length of a body
abbrev pub last_lines : List ℕ
last_lines = codes "\r\nConnection: close\r\n\r\n"

pub either : (x y : Bool) → y ≡ true → (x || y) ≡ true
either true y held = refl
either false y held = held

-- bytes with these lines at their end end with an empty line
last_lines_end : (front : List ℕ) → ends_with_empty_line (front ++ last_lines) ≡ true
unfolding ends_with_empty_line
last_lines_end front =
    let parts : front ++ last_lines ≡ (front ++ codes "\r\nConnection: close\r") ++ 10 ∷ 13 ∷ 10 ∷ [] =
    sym (append_assoc front (codes "\r\nConnection: close\r") (10 ∷ 13 ∷ 10 ∷ [])) in
    either _ _ ((ends_is Decides-eqb (front ++ last_lines) (10 ∷ 13 ∷ 10 ∷ []) _ refl).1 (front ++ codes "\r\nConnection: close\r") parts)

-- a few lines, digits, and these lines are a head
pub own_head : (lines digits : List ℕ) → is_quiet (lines ++ (digits ++ last_lines)) ≡ is_quiet (digits ++ last_lines)
    → AllDigits 10 digits → EndsAtEmptyLine (lines ++ (digits ++ last_lines))
own_head lines digits quiet are_digits =
    quiet_head (lines ++ (digits ++ last_lines)) (quiet ∙ digits_quiet digits last_lines are_digits refl)
    (ap ends_with_empty_line (sym (append_assoc lines digits last_lines)) ∙ last_lines_end (lines ++ digits))
