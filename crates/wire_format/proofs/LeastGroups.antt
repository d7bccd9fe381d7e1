-- The least groups of seven bits of a number.
use Rattle.std.proofs.Common.{◌≡◌, ℕ, zero, suc, ◌+◌, ◌-◌, ◌/◌, ◌%◌, ◌<◌, ◌≤◌, true, false, if◌then◌else◌, nat_lt, List, [], ◌∷◌, ◌++◌, length, refl, sym, ap, subst, ◌∙◌, arith}
use Rattle.std.proofs.lemmas.Bool.Decides.{nat_tests}
use Rattle.std.proofs.lemmas.List.{append_assoc, length-append}
use Rattle.wire_format.specs.Spellings.{least_groups, varint_of}
use Rattle.wire_format.proofs.SevenBitGroups.{scaled}

is_small : (value : ℕ) → value < 128 → nat_lt value 128 ≡ true
is_small value small = grind (arith, nat_tests, small)

is_large : (value : ℕ) → 128 ≤ value → nat_lt value 128 ≡ false
is_large value large = grind (arith, nat_tests, large)

-- a number below 128 is one group
pub one_group : (more value : ℕ) → value < 128 → least_groups more value ≡ value ∷ []
unfolding least_groups
one_group zero value small = refl
one_group (suc more) value small =
    ap (λ last. if last then value ∷ [] else (value % 128 + 128) ∷ least_groups more (value / 128)) (is_small value small)

-- another one has its lowest group, and more
pub more_groups : (more value : ℕ) → 128 ≤ value → least_groups (suc more) value ≡ (value % 128 + 128) ∷ least_groups more (value / 128)
unfolding least_groups
more_groups more value large =
    ap (λ last. if last then value ∷ [] else (value % 128 + 128) ∷ least_groups more (value / 128)) (is_large value large)

-- the last place has one group
pub last_group : (value : ℕ) → least_groups zero value ≡ value ∷ []
unfolding least_groups
last_group value = refl

-- a number that so many groups more than one can make
abbrev pub Fills : ℕ → ℕ → Type 0
Fills more value = value < scaled more 128

-- each number of 64 bits is made by ten groups
pub ten_fill : (value : ℕ) → value < 18446744073709551616 → Fills 9 value
unfolding scaled
ten_fill value small = omega (arith, small)

-- a loop that has written none
pub spelled : (written : List ℕ) (value : ℕ) → written ≡ [] → value < 18446744073709551616 →
    (written ++ least_groups (9 - length written) value ≡ varint_of value) × Fills (9 - length written) value
spelled written value none small = (
  ap (λ (front : List ℕ). front ++ least_groups (9 - length front) value) none,
  subst (λ (size : ℕ). Fills (9 - size) value) (sym (ap length none)) (ten_fill value small),
)

-- where one group doesn't make a number, more may follow
record Goes (more size rest : ℕ) : Type 0 where
  pub may : size < 9
  pub fills : Fills (9 - (size + 1)) (rest / 128)
  pub is : least_groups more rest ≡ (rest % 128 + 128) ∷ least_groups (9 - (size + 1)) (rest / 128)

goes_on : (more size rest : ℕ) → more ≡ 9 - size → 128 ≤ rest → Fills more rest → Goes more size rest
unfolding scaled
goes_on zero size rest left large fills = absurd (omega (arith, large, fills))
goes_on (suc more) size rest left large fills =
    let same : more ≡ 9 - (size + 1) = omega (arith, left) in
    record {
      may = omega (arith, left);
      fills = subst (λ room. Fills room (rest / 128)) same (let below : rest / 128 < scaled more 128 = omega (arith, fills) in below);
      is = more_groups more rest large ∙ ap (λ room. (rest % 128 + 128) ∷ least_groups room (rest / 128)) same;
    }

-- a loop that has written some groups writes one more
pub one_more : (written whole : List ℕ) (rest : ℕ) → 128 ≤ rest →
    (written ++ least_groups (9 - length written) rest ≡ whole) × Fills (9 - length written) rest →
    (length written < 9)
    × (((written ++ (rest % 128 + 128) ∷ []) ++ least_groups (9 - length (written ++ (rest % 128 + 128) ∷ [])) (rest / 128) ≡ whole)
    × Fills (9 - length (written ++ (rest % 128 + 128) ∷ [])) (rest / 128))
one_more written whole rest large so_far =
    let goes = goes_on (9 - length written) (length written) rest refl large so_far.1 in
    let group = rest % 128 + 128 in
    let longer : length written + 1 ≡ length (written ++ group ∷ []) = omega (arith, length-append written (group ∷ [])) in (
      goes.may,
      (
        ap (λ size. (written ++ group ∷ []) ++ least_groups (9 - size) (rest / 128)) (sym longer)
            ∙ append_assoc written (group ∷ []) (least_groups (9 - (length written + 1)) (rest / 128))
            ∙ ap (λ groups. written ++ groups) (sym goes.is) ∙ so_far.0,
        subst (λ size. Fills (9 - size) (rest / 128)) longer goes.fills,
      ),
    )

-- a loop that has written all but the last group writes that
pub last_one : (written whole : List ℕ) (rest : ℕ) → rest < 128 →
    (written ++ least_groups (9 - length written) rest ≡ whole) × Fills (9 - length written) rest → written ++ rest ∷ [] ≡ whole
last_one written whole rest small so_far =
    ap (λ groups. written ++ groups) (sym (one_group (9 - length written) rest small)) ∙ so_far.0

-- a loop that counts groups counts one more
pub count_more : (len rest all : ℕ) → len < 10 → 128 ≤ rest → len + length (least_groups (10 - len) rest) ≡ 1 + all →
    (len + 1) + length (least_groups (10 - (len + 1)) (rest / 128)) ≡ 1 + all
count_more len rest all within large so_far =
    let same : 10 - len ≡ suc (10 - (len + 1)) = omega (arith, within) in
    omega (
      arith,
      so_far,
      ap (λ more. length (least_groups more rest)) same,
      ap length (more_groups (10 - (len + 1)) rest large),
    )

-- it ends at the last group
pub count_last : (len rest all : ℕ) → rest < 128 → len + length (least_groups (10 - len) rest) ≡ 1 + all → len ≡ all
count_last len rest all small so_far = omega (arith, so_far, ap length (one_group (10 - len) rest small))

-- no more than ten are counted
pub count_ten : (len rest all : ℕ) → len ≡ 10 → len + length (least_groups (10 - len) rest) ≡ 1 + all → 10 ≡ all
count_ten len rest all ten so_far =
    omega (
      arith,
      so_far,
      ten,
      ap (λ more. length (least_groups more rest)) (let none : 10 - len ≡ 0 = omega (arith, ten) in none),
      ap length (last_group rest),
    )
