-- The number that a few digits write.
use Rattle.std.proofs.Common.{◌≡◌, ℕ, ◌+◌, ◌-◌, ◌*◌, ◌^◌, ◌<◌, ◌≤◌, List, [], ◌∷◌, length, take, get_or, true, arith, lit<, lit≤}
use Rattle.std.specs.List.{list_all}
use Rattle.std.specs.Int.{IsInRange}
use Rattle.std.specs.Char.{is_ascii_digit}
use Rattle.std.specs.Str.Parse.{AllDigits, digits_value}
use Rattle.std.proofs.Math.Nat.{pow-le-pow_right, lt_of_lt_of_le}
use Rattle.std.proofs.lemmas.Bool.{and_parts, leb-true}
use Rattle.std.proofs.lemmas.Int.Digits.{digits_value-lt, digits_value_more}
use Rattle.std.proofs.lemmas.Str.{digit_value_digit}
use Rattle.std.proofs.lemmas.Str.Parse.{digits_value-take-le}
use Rattle.std.proofs.lemmas.List.Elements.{All-get_or}
use Rattle.std.proofs.lemmas.List.Sums.{AllPass-from_list_all}
use Rattle.http_edge.specs.Fields.{is_number}

-- a digit is a byte of that range
pub digit_in_range : (c : ℕ) → is_ascii_digit c ≡ true → IsInRange 48 57 c
digit_in_range c h = let both = and_parts _ _ h in (leb-true _ _ both.0, leb-true _ _ both.1)

all_digits : (ds : List ℕ) → list_all is_ascii_digit ds ≡ true → AllDigits 10 ds
all_digits [] h = tt
all_digits (d ∷ ds) h =
    let both = and_parts (is_ascii_digit d) (list_all is_ascii_digit ds) h in
    let range = digit_in_range d both.0 in
    (omega (arith, digit_value_digit d range, range.1), all_digits ds both.1)

-- the parts of the test
short : (ds : List ℕ) → is_number ds ≡ true → length ds ≤ 10
short ds h = leb-true (length ds) 10 (and_parts _ _ (and_parts _ _ h).0).1

pub are_digits : (ds : List ℕ) → is_number ds ≡ true → list_all is_ascii_digit ds ≡ true
are_digits ds h = (and_parts _ _ h).1

-- one digit more
pub next_digit : (ds : List ℕ) (i : ℕ) → is_number ds ≡ true → i < length ds
    → digits_value 10 (take i ds) * 10 + (get_or ds i 0 - 48) ≡ digits_value 10 (take (i + 1) ds)
next_digit ds i h below =
    let digit = All-get_or (λ c. is_ascii_digit c ≡ true) ds i 0 below (AllPass-from_list_all is_ascii_digit ds (are_digits ds h)) in
    let value = digit_value_digit (get_or ds i 0) (digit_in_range _ digit) in
    let more = digits_value_more 10 ds i below in
    omega (arith, value, more)

-- ten digits write a number that fits 64 bits, and so does each front of them
pub digits_fit : (ds : List ℕ) (i : ℕ) → is_number ds ≡ true → digits_value 10 (take i ds) < 10000000000
digits_fit ds i h =
    let whole : digits_value 10 ds < 10 ^ 10 =
    lt_of_lt_of_le (digits_value-lt 10 ds (all_digits ds (are_digits ds h))) (pow-le-pow_right {n = 10} (lit< tt) (short ds h)) in
    let front = digits_value-take-le 10 ds i (lit≤ tt) in
    omega (arith, whole, front)
