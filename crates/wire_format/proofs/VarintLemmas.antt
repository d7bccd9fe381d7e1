-- A varint at the front of some bytes.
use Rattle.std.proofs.Common.{◌≡◌, ℕ, ◌+◌, ◌<◌, ◌≤◌, List, ◌∷◌, ◌++◌, length, take, drop, get_or, refl, sym, ap, subst, ◌∙◌, arith}
use Rattle.std.proofs.lemmas.List.{take-append-drop, take_more, drop_more, length-take-le}
use Rattle.wire_format.specs.Varints.{GoOn, groups_value, IsVarint, IsLongVarint}
use Rattle.wire_format.proofs.SevenBitGroups.{varint_fits}

-- bytes in two parts, with one byte between them
pub cut_around : (bytes : List ℕ) (place : ℕ) → place < length bytes →
    bytes ≡ take place bytes ++ get_or bytes place 0 ∷ drop (place + 1) bytes
cut_around bytes place inside =
    sym (take-append-drop place bytes) ∙ ap (λ rest. take place bytes ++ rest) (drop_more bytes place 0 inside)

-- the tenth byte is above 1
pub long_here : (bytes : List ℕ) (count : ℕ) → count ≡ 9 → count < length bytes → GoOn (take count bytes) →
    1 < get_or bytes count 0 → IsLongVarint bytes
long_here bytes count nine inside goes_on above = record {
  front = take count bytes;
  tenth = get_or bytes count 0;
  after = drop (count + 1) bytes;
  is_whole = cut_around bytes count inside;
  goes_on = goes_on;
  is_ninth = length-take-le count bytes (omega (arith, inside)) ∙ nine;
  is_above = above;
}

-- the bytes up to one whose top bit is not set
pub varint_here : (bytes : List ℕ) (count : ℕ) → count < length bytes → GoOn (take count bytes) → count ≤ 9 →
    get_or bytes count 0 < 128 → (count ≡ 9 → get_or bytes count 0 ≤ 1) →
    IsVarint (take (count + 1) bytes) (groups_value (take (count + 1) bytes))
varint_here bytes count inside goes_on short ends tenth = record {
  front = take count bytes;
  last = get_or bytes count 0;
  is_whole = take_more bytes count 0 inside;
  goes_on = goes_on;
  ends = ends;
  is_short = omega (arith, length-take-le count bytes (omega (arith, inside)), short);
  tenth = λ nine. tenth (sym (length-take-le count bytes (omega (arith, inside))) ∙ nine);
  is_value = refl;
}

-- its number fits into 64 bits
pub varint_bound : (bytes : List ℕ) (value : ℕ) → IsVarint bytes value → value < 18446744073709551616
varint_bound bytes value varint =
    let fits = varint_fits varint.front varint.last varint.is_short varint.ends varint.tenth in
    subst (λ (number : ℕ). number < 18446744073709551616)
    (ap groups_value (sym varint.is_whole) ∙ sym varint.is_value) fits
