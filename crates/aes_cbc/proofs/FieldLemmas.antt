-- The field's product spreads over sums, and what holds of each of the 256 bytes is computed.
use Rattle.std.proofs.Common.{◌≡◌, ℕ, zero, suc, ◌+◌, ◌*◌, ◌%◌, ◌^◌, ◌<◌, Bool, true, ◌⊎◌, inl, inr, refl, sym, ap, ◌∙◌, arith, nat_lt, ◌==◌, add-zero, zero-mul, one-mul}
use Rattle.std.specs.Int.{bit_at}
use Rattle.std.proofs.lemmas.Nat.{xor_comm, xor_block, pow_pos}
use Rattle.std.proofs.lemmas.Nat.Bits.{bit_at_xor, bit_at-lt}
use Rattle.std.proofs.lemmas.Bool.{agree_below, agree_below_at, eqb-true, ltb-true}
use lib.Bits.{xor_assoc, xor_self, xor_zero_r}
use Rattle.aes_cbc.specs.Field.{◌⊕◌, ◌•◌, MODULUS, polynomial_product, remainder}

-- ---- sums

pub sum_comm : (a b : ℕ) → a ⊕ b ≡ b ⊕ a
sum_comm = xor_comm

pub sum_assoc : (a b c : ℕ) → (a ⊕ b) ⊕ c ≡ a ⊕ (b ⊕ c)
sum_assoc = xor_assoc

-- the two inner ones of four change places
pub sum_exchange : (a b c d : ℕ) → (a ⊕ b) ⊕ (c ⊕ d) ≡ (a ⊕ c) ⊕ (b ⊕ d)
sum_exchange a b c d =
    sum_assoc a b (c ⊕ d) ∙ ap (λ x. a ⊕ x) (sym (sum_assoc b c d) ∙ ap (λ x. x ⊕ d) (sum_comm b c) ∙ sum_assoc c b d ∙ refl)
    ∙ sym (sum_assoc a c (b ⊕ d))

-- what is added twice is gone
pub sum_twice : (a b : ℕ) → (a ⊕ b) ⊕ b ≡ a
sum_twice a b = sum_assoc a b b ∙ ap (λ x. a ⊕ x) (xor_self b) ∙ xor_zero_r a

-- ---- products

-- a bit is 0 or 1
bit_cases : (b : ℕ) → b < 2 → (b ≡ 0) ⊎ (b ≡ 1)
bit_cases zero h = inl refl
bit_cases (suc zero) h = inr refl
bit_cases (suc (suc n)) h = absurd (omega arith)

times_bit : (b x y : ℕ) → b < 2 → b * (x ⊕ y) ≡ b * x ⊕ b * y
times_bit b x y h = elim (bit_cases b h) [
  | inl e ↦ rw (e, zero-mul (x ⊕ y), zero-mul x, zero-mul y) refl
  | inr e ↦ rw (e, one-mul (x ⊕ y), one-mul x, one-mul y) refl
]

times_power : (n x y : ℕ) → (x ⊕ y) * 2 ^ n ≡ x * 2 ^ n ⊕ y * 2 ^ n
times_power n x y = sym (simp add-zero at (xor_block n x y 0 0 (pow_pos n) (pow_pos n)))

bit_sum_times : (a b m : ℕ) → a < 2 → b < 2 → ((a + b) % 2) * m ≡ a * m ⊕ b * m
bit_sum_times a b m h k = elim (bit_cases a h) [
  | inl e ↦ elim (bit_cases b k) [
    | inl f ↦ rw (e, f, zero-mul m) refl
    | inr f ↦ rw (e, f, zero-mul m) refl
  ]
  | inr e ↦ elim (bit_cases b k) [
    | inl f ↦ rw (e, f, zero-mul m) (sym (xor_zero_r (1 * m)))
    | inr f ↦ rw (e, f, zero-mul m) (sym (xor_self (1 * m)))
  ]
]

polynomial_product-sum : (n a x y : ℕ) → polynomial_product n a (x ⊕ y) ≡ polynomial_product n a x ⊕ polynomial_product n a y
unfolding polynomial_product
polynomial_product-sum zero a x y = refl
polynomial_product-sum (suc n) a x y =
    let step : bit_at a n * ((x ⊕ y) * 2 ^ n) ≡ bit_at a n * (x * 2 ^ n) ⊕ bit_at a n * (y * 2 ^ n) =
    ap (λ z. bit_at a n * z) (times_power n x y) ∙ times_bit (bit_at a n) (x * 2 ^ n) (y * 2 ^ n) (bit_at-lt a n) in
    rw (polynomial_product-sum n a x y, step)
    (sum_exchange (polynomial_product n a x) (polynomial_product n a y) (bit_at a n * (x * 2 ^ n)) (bit_at a n * (y * 2 ^ n)))

remainder-sum : (n p q : ℕ) → remainder n (p ⊕ q) ≡ remainder n p ⊕ remainder n q
unfolding remainder
remainder-sum zero p q = refl
remainder-sum (suc n) p q =
    let m : ℕ = MODULUS * 2 ^ n in
    let a : ℕ = bit_at p (8 + n) * m in
    let b : ℕ = bit_at q (8 + n) * m in
    let top : bit_at (p ⊕ q) (8 + n) * m ≡ a ⊕ b =
    ap (λ z. z * m) (bit_at_xor p q (8 + n)) ∙ bit_sum_times (bit_at p (8 + n)) (bit_at q (8 + n)) m (bit_at-lt p (8 + n)) (bit_at-lt q (8 + n)) in
    ap (λ z. remainder n (p ⊕ q ⊕ z)) top ∙ ap (remainder n) (sum_exchange p q a b) ∙ remainder-sum n (p ⊕ a) (q ⊕ b)

-- a product spreads over a sum
pub product-sum : (a x y : ℕ) → a • (x ⊕ y) ≡ a • x ⊕ a • y
unfolding ◌•◌
product-sum a x y = ap (remainder 7) (polynomial_product-sum 8 a x y) ∙ remainder-sum 7 (polynomial_product 8 a x) (polynomial_product 8 a y)

-- ---- what holds of each byte

-- a test that each byte passes, as computed
each_byte : (test : ℕ → Bool) → agree_below test (λ _. true) 256 ≡ true → (b : ℕ) → b < 256 → test b ≡ true
each_byte test h b small = agree_below_at test (λ _. true) 256 b h small

-- two functions that agree at each byte, as computed
pub agree_at_bytes : (f g : ℕ → ℕ) → agree_below (λ b. f b == g b) (λ _. true) 256 ≡ true → (b : ℕ) → b < 256 → f b ≡ g b
agree_at_bytes f g h b small = eqb-true (f b) (g b) (each_byte (λ c. f c == g c) h b small)

-- a function that gives a byte for each byte, as computed
pub byte_at_bytes : (f : ℕ → ℕ) → agree_below (λ b. nat_lt (f b) 256) (λ _. true) 256 ≡ true → (b : ℕ) → b < 256 → f b < 256
byte_at_bytes f h b small = ltb-true (f b) 256 (each_byte (λ c. nat_lt (f c) 256) h b small)
