-- Where a text is cut.
use Rattle.std.proofs.Common.{◌≡◌, ◌≢◌, ℕ, suc, ◌+◌, ◌-◌, ◌<◌, ◌≤◌, Bool, true, false, cond, ltb, ◌==◌, List, [], ◌∷◌, ◌++◌, length, take, drop, get_or, Some, None, refl, sym, ap, ◌∙◌, arith, add-one, drop-cons, subst}
use Rattle.std.specs.Prelude.{IsTrue}
use Rattle.std.specs.List.{AllByRecursion, position, position_or_len}
use Rattle.std.proofs.lemmas.Bool.{false≢true, eqb-true, eqb-false, ltb-false}
use Rattle.std.proofs.lemmas.List.{take-append-drop, get_or-take, length-take}
use Rattle.std.proofs.lemmas.List.Elements.{recursion_from_All, All-from_get_or}
use Rattle.std.proofs.lemmas.List.Quantifiers.{position-Some}
use Rattle.std.proofs.lemmas.List.Sums.{fails_before_first}
use Rattle.std.proofs.lemmas.Grind.{common_steps}
use Rattle.schedule_text.specs.Reading.{IsCut}

-- what follows a place in a text that is cut
pub tail_is : (bytes : List ℕ) (at : ℕ) → take (length bytes - at) (drop at bytes) ≡ drop at bytes
tail_is bytes at = grind (arith, common_steps)

pub cut_is : (bytes : List ℕ) (byte at : ℕ) → position (λ other. other == byte) bytes ≡ Some at → IsCut bytes byte (take at bytes) (take (length bytes - (at + 1)) (drop (at + 1) bytes))
cut_is bytes byte at found =
    let p = position-Some (λ other. other == byte) bytes at 0 found in
    let is_byte : get_or bytes at 0 ≡ byte = eqb-true _ _ p.1 in
    let within : at < length bytes = p.0 in
    let back : drop at bytes ≡ byte ∷ drop (at + 1) bytes = rw add-one (drop-cons bytes at 0 within ∙ ap (λ (b : ℕ). b ∷ drop (suc at) bytes) is_byte) in
    record {
      is_whole = rw tail_is (sym (take-append-drop at bytes) ∙ ap (λ (r : List ℕ). take at bytes ++ r) back);
      is_first = recursion_from_All (λ other. other ≢ byte) (take at bytes) (All-from_get_or (λ other. other ≢ byte) (take at bytes) 0 (λ k lt. let low : k < at = omega (arith, length-take at bytes) in rw (get_or-take at bytes k 0 low) (eqb-false _ _ (p.2 k low))));
    }

-- a choice that gave nothing
none_from : (b : Bool) (n : ℕ) → cond b (Some n) None ≡ None → b ≡ false
none_from true n e = absurd cc
none_from false n e = refl

pub uncut_is : (bytes : List ℕ) (byte : ℕ) → position (λ other. other == byte) bytes ≡ None → AllByRecursion (λ other. other ≢ byte) bytes
uncut_is bytes byte none =
    let p : ℕ → Bool = λ other. other == byte in
    let past : length bytes ≤ position_or_len p bytes = ltb-false _ _ (none_from (ltb (position_or_len p bytes) (length bytes)) (position_or_len p bytes) none) in
    recursion_from_All (λ other. other ≢ byte) bytes (All-from_get_or (λ other. other ≢ byte) bytes 0 (λ k lt. eqb-false _ _ (fails_before_first p bytes k 0 (omega arith))))

-- a text that is not empty
pub some_bytes : (bytes : List ℕ) → false ≡ (length bytes == 0) → bytes ≢ []
some_bytes [] is e = cc
some_bytes (byte ∷ bytes) is e = cc

-- a text by its first byte
pub first_is : (bytes : List ℕ) (byte : ℕ) → 1 ≤ length bytes → get_or bytes 0 0 ≡ byte → bytes ≡ byte ∷ take (length bytes - 1) (drop 1 bytes)
first_is [] byte some is = absurd (omega arith)
first_is (first ∷ bytes) byte some is = rw tail_is (ap (λ (b : ℕ). b ∷ bytes) is)

pub some_length : (bytes : List ℕ) → false ≡ (length bytes == 0) → 0 < length bytes
some_length [] is = absurd cc
some_length (byte ∷ bytes) is = omega arith

pub no_length : (bytes : List ℕ) → true ≡ (length bytes == 0) → bytes ≡ []
no_length [] is = refl
no_length (byte ∷ bytes) is = absurd (let none : suc (length bytes) ≡ 0 = eqb-true _ _ (sym is) in omega arith)

-- a byte stands in a text
stands_inside : (byte : ℕ) (front back : List ℕ) → AllByRecursion (λ other. other ≢ byte) (front ++ byte ∷ back) → ⊥
stands_inside byte [] back none = none.0 refl
stands_inside byte (first ∷ front) back none = stands_inside byte front back none.1

pub no_cut : (byte : ℕ) (bytes front back : List ℕ) → AllByRecursion (λ other. other ≢ byte) bytes → bytes ≢ front ++ byte ∷ back
no_cut byte bytes front back none is = stands_inside byte front back (subst (λ (l : List ℕ). AllByRecursion (λ other. other ≢ byte) l) is none)

-- a text is cut in one way
pub cuts_same : (byte : ℕ) (one after other more : List ℕ) → AllByRecursion (λ b. b ≢ byte) one → AllByRecursion (λ b. b ≢ byte) other → one ++ byte ∷ after ≡ other ++ byte ∷ more → (one ≡ other) × (after ≡ more)
cuts_same byte [] after [] more p q e = (refl, cc)
cuts_same byte [] after (y ∷ other) more p q e = absurd (let same : y ≡ byte = cc in q.0 same)
cuts_same byte (x ∷ one) after [] more p q e = absurd (let same : x ≡ byte = cc in p.0 same)
cuts_same byte (x ∷ one) after (y ∷ other) more p q e =
    let same : x ≡ y = cc in
    let rest = cuts_same byte one after other more p.1 q.1 cc in
    (ap (λ (n : ℕ). n ∷ one) same ∙ ap (λ (l : List ℕ). y ∷ l) rest.0, rest.1)

-- a test that failed
pub not_same : (bytes text : List ℕ) → (bytes ≡ text → IsTrue false) → bytes ≢ text
not_same bytes text fails e = false≢true (fails e)
