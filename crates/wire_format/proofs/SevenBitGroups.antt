-- The number that groups of seven bits make.
use Rattle.std.proofs.Common.{◌≡◌, ℕ, zero, suc, ◌+◌, ◌-◌, ◌*◌, ◌%◌, ◌<◌, ◌≤◌, List, [], ◌∷◌, ◌++◌, ◌⊎◌, inl, inr, length, drop, get_or, refl, subst, arith}
use Rattle.wire_format.specs.Varints.{groups_value}

-- from a place on they make at most the number of all
groups_at : (bytes : List ℕ) (place : ℕ) → groups_value (drop place bytes) ≤ groups_value bytes
unfolding groups_value
groups_at [] zero = omega arith
groups_at [] (suc place) = omega arith
groups_at (byte ∷ bytes) zero = omega arith
groups_at (byte ∷ bytes) (suc place) = omega (arith, groups_at bytes place)

-- from a place on they make a number that is below what the whole number is below
pub groups_fit : (bytes : List ℕ) (place top : ℕ) → groups_value bytes < top → groups_value (drop place bytes) < top
groups_fit bytes place top below = omega (arith, groups_at bytes place, below)

groups_step : (bytes : List ℕ) (place : ℕ) → place < length bytes →
    groups_value (drop place bytes) ≡ groups_value (drop (suc place) bytes) * 128 + get_or bytes place 0 % 128
unfolding groups_value
groups_step [] place inside = absurd (let no : 0 < 0 = omega (arith, inside) in omega (arith, no))
groups_step (byte ∷ bytes) zero inside = omega arith
groups_step (byte ∷ bytes) (suc place) inside = groups_step bytes place (omega (arith, inside))

-- a group more before those from a place on
pub groups_before : (bytes : List ℕ) (place : ℕ) → 0 < place → place ≤ length bytes →
    groups_value (drop (place - 1) bytes) ≡ groups_value (drop place bytes) * 128 + get_or bytes (place - 1) 0 % 128
groups_before bytes zero some inside = absurd (omega (arith, some))
groups_before bytes (suc place) some inside =
    subst (λ before. groups_value (drop before bytes) ≡ groups_value (drop (suc place) bytes) * 128 + get_or bytes before 0 % 128)
    (let same : place ≡ suc place - 1 = omega arith in same)
    (groups_step bytes place (omega (arith, inside)))

-- none at the end
pub groups_end : (bytes : List ℕ) → 0 ≡ groups_value (drop (length bytes) bytes)
unfolding groups_value
groups_end [] = refl
groups_end (byte ∷ bytes) = groups_end bytes

-- the next number of a loop that goes from the last group to the first, and that it is below what all is below
pub groups_next : (bytes : List ℕ) (place value group top : ℕ) → 0 < place → place ≤ length bytes →
    value ≡ groups_value (drop place bytes) → group ≡ get_or bytes (place - 1) 0 % 128 → groups_value bytes < top →
    (value * 128 + group ≡ groups_value (drop (place - 1) bytes)) × (value * 128 + group < top)
groups_next bytes place value group top some inside is_value is_group below =
    let same : value * 128 + group ≡ groups_value (drop (place - 1) bytes)
    = omega (arith, is_value, is_group, groups_before bytes place some inside) in
    (same, omega (arith, same, groups_fit bytes (place - 1) top below))

-- a number with so many groups put before it
unfoldable pub scaled : ℕ → ℕ → ℕ
scaled zero top = top
scaled (suc count) top = 128 * scaled count top

scaled_more : (count most top : ℕ) → count ≤ most → scaled count top ≤ scaled most top
unfolding scaled
scaled_more zero zero top within = omega arith
scaled_more zero (suc most) top within = omega (arith, scaled_more zero most top (omega arith))
scaled_more (suc count) zero top within = absurd (omega (arith, within))
scaled_more (suc count) (suc most) top within = omega (arith, scaled_more count most top (omega (arith, within)))

groups_below : (front : List ℕ) (last : ℕ) → groups_value (front ++ last ∷ []) < scaled (length front) (last + 1)
unfolding scaled groups_value
groups_below [] last = omega arith
groups_below (byte ∷ front) last = omega (arith, groups_below front last)

short_fits : (count last : ℕ) → count ≤ 8 → last < 128 → scaled count (last + 1) ≤ 9223372036854775808
unfolding scaled
short_fits count last short ends = omega (arith, scaled_more count 8 (last + 1) short, ends)

long_fits : (count last : ℕ) → count ≡ 9 → last ≤ 1 → scaled count (last + 1) ≤ 18446744073709551616
unfolding scaled
long_fits count last same tenth = omega (arith, scaled_more count 9 (last + 1) (omega (arith, same)), tenth)

count_fits : (count last : ℕ) → count ≤ 9 → last < 128 → (count ≡ 9 → last ≤ 1) → (count ≤ 8) ⊎ (count ≡ 9) →
    scaled count (last + 1) ≤ 18446744073709551616
count_fits count last short ends tenth (inl few) = omega (arith, short_fits count last few ends)
count_fits count last short ends tenth (inr nine) = long_fits count last nine (tenth nine)

few_or_nine : (count : ℕ) → count ≤ 9 → (count ≤ 8) ⊎ (count ≡ 9)
few_or_nine count short = grind (arith, short)

-- a varint's number fits into 64 bits
pub varint_fits : (front : List ℕ) (last : ℕ) → length front ≤ 9 → last < 128 → (length front ≡ 9 → last ≤ 1) →
    groups_value (front ++ last ∷ []) < 18446744073709551616
varint_fits front last short ends tenth =
    omega (arith, groups_below front last, count_fits (length front) last short ends tenth (few_or_nine (length front) short))
