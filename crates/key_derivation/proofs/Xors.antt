-- Bytes xored in place, one after the other.
use Rattle.std.proofs.Common.{◌≡◌, ℕ, zero, suc, ◌+◌, ◌<◌, ◌≤◌, List, [], ◌∷◌, length, get_or, bit_xor, refl, ap, sym, ◌∙◌, arith}
use Rattle.std.proofs.Math.ListN.{set}
use Rattle.std.proofs.lemmas.List.{length-map, get_or-map}
use Rattle.key_derivation.specs.Hmac.{xored}
use Rattle.key_derivation.specs.Pbkdf2.{xor_bytes}
use Rattle.key_derivation.proofs.Writes.{replaced, replaced_at, replaced_more, replaced_all}

-- two lists of one length xored are as long
pub length-xor_bytes : (xs ys : List ℕ) → length ys ≡ length xs → length (xor_bytes xs ys) ≡ length xs
length-xor_bytes [] ys long = refl
length-xor_bytes (x ∷ xs) [] long = absurd (omega (arith, long))
length-xor_bytes (x ∷ xs) (y ∷ ys) long = ap suc (length-xor_bytes xs ys (omega (arith, long)))

-- a byte of two lists xored
pub get_or-xor_bytes : (xs ys : List ℕ) (place : ℕ) → place < length xs → length ys ≡ length xs →
    get_or (xor_bytes xs ys) place 0 ≡ bit_xor (get_or xs place 0) (get_or ys place 0)
get_or-xor_bytes [] ys place inside long = absurd (omega (arith, inside))
get_or-xor_bytes (x ∷ xs) [] place inside long = absurd (omega (arith, long))
get_or-xor_bytes (x ∷ xs) (y ∷ ys) zero inside long = refl
get_or-xor_bytes (x ∷ xs) (y ∷ ys) (suc place) inside long =
    get_or-xor_bytes xs ys place (omega (arith, inside)) (omega (arith, long))

-- one byte of a block more, xored with the pad's
pub xored_more : (block items : List ℕ) (pad place : ℕ) → place < length block → items ≡ replaced block (xored block pad) place →
    set items place (bit_xor (get_or items place 0) pad) ≡ replaced block (xored block pad) (place + 1)
xored_more block items pad place inside is_items =
    let byte_xored : ℕ → ℕ = λ byte. bit_xor byte pad in
    let long : length (xored block pad) ≡ length block = length-map block byte_xored in
    let value : bit_xor (get_or items place 0) pad ≡ get_or (xored block pad) place 0 =
    ap (λ (list : List ℕ). bit_xor (get_or list place 0) pad) is_items
    ∙ ap byte_xored (replaced_at block (xored block pad) place inside long)
    ∙ sym (get_or-map byte_xored block place 0 0 inside) in
    ap (λ (list : List ℕ). set list place (bit_xor (get_or items place 0) pad)) is_items
    ∙ replaced_more block (xored block pad) place (bit_xor (get_or items place 0) pad) inside long value

-- one byte of two lists more, xored
pub xor_bytes_more : (xs ys items : List ℕ) (place : ℕ) → place < length xs → length ys ≡ length xs →
    items ≡ replaced xs (xor_bytes xs ys) place →
    set items place (bit_xor (get_or items place 0) (get_or ys place 0)) ≡ replaced xs (xor_bytes xs ys) (place + 1)
xor_bytes_more xs ys items place inside same is_items =
    let long : length (xor_bytes xs ys) ≡ length xs = length-xor_bytes xs ys same in
    let byte : ℕ = bit_xor (get_or items place 0) (get_or ys place 0) in
    let value : byte ≡ get_or (xor_bytes xs ys) place 0 =
    ap (λ (list : List ℕ). bit_xor (get_or list place 0) (get_or ys place 0)) is_items
    ∙ ap (λ (first : ℕ). bit_xor first (get_or ys place 0)) (replaced_at xs (xor_bytes xs ys) place inside long)
    ∙ sym (get_or-xor_bytes xs ys place inside same) in
    ap (λ (list : List ℕ). set list place byte) is_items
    ∙ replaced_more xs (xor_bytes xs ys) place byte inside long value

-- at the end all bytes are xored
pub xor_bytes_all : (xs ys : List ℕ) (place : ℕ) → length xs ≤ place → length ys ≡ length xs →
    replaced xs (xor_bytes xs ys) place ≡ xor_bytes xs ys
xor_bytes_all xs ys place past same = replaced_all xs (xor_bytes xs ys) place past (length-xor_bytes xs ys same)
