-- Bytes as the elements of the field GF(2^8) (FIPS 197, update 1, section 4). A byte is a number below 256,
-- and its bits are the coefficients of a polynomial: bit i is that of x^i.
use Rattle.std.specs.Prelude.{ℕ, zero, suc, ◌+◌, ◌*◌, ◌^◌, ◌==◌, bit_xor, find, unwrap_or}
use Rattle.std.specs.Int.{bit_at}
use Rattle.std.specs.List.{range_with_len}

infixl 60 ◌⊕◌
infixl 70 ◌•◌
-- the sum of two polynomials: their coefficients are added modulo 2 (4.1)
abbrev pub ◌⊕◌ : ℕ → ℕ → ℕ
a ⊕ b = bit_xor a b

-- the polynomial m(x) = x^8 + x^4 + x^3 + x + 1 (4.2)
abbrev pub MODULUS : ℕ
MODULUS = 0x11b

-- the product of two polynomials, the first one of degree below n: the sum of the second one's multiples
-- by the powers of x that stand in the first
unfoldable pub polynomial_product : ℕ → ℕ → ℕ → ℕ
polynomial_product zero a b = 0
polynomial_product (suc n) a b = polynomial_product n a b ⊕ bit_at a n * (b * 2 ^ n)

-- what is left of a polynomial of degree below 8 + n modulo m(x): where it has x^(7 + n), the multiple of
-- m(x) that takes that power away is added
unfoldable pub remainder : ℕ → ℕ → ℕ
remainder zero p = p
remainder (suc n) p = remainder n (p ⊕ bit_at p (8 + n) * (MODULUS * 2 ^ n))

-- the product of two bytes: that of their polynomials, modulo m(x) (4.2)
unfoldable pub ◌•◌ : ℕ → ℕ → ℕ
a • b = remainder 7 (polynomial_product 8 a b)

-- the byte that gives 1 as the product with this one, and 0 for 0 (4.4, 5.1.1)
unfoldable pub inverse : ℕ → ℕ
inverse b = unwrap_or (find (λ c. b • c == 1) (range_with_len 0 256)) 0

-- x^n (4.2)
unfoldable pub power_of_x : ℕ → ℕ
power_of_x zero = 1
power_of_x (suc n) = 2 • power_of_x n
