-- The tables of the code are those of the definitions, computed at each of the 256 bytes.
use Rattle.std.proofs.Common.{◌≡◌, ℕ, ◌<◌, List, [], ◌∷◌, map, get_or, refl, sym, ap, ◌∙◌, arith}
use Rattle.std.specs.Int.{w32, from_be_bytes}
use Rattle.std.specs.List.{range_with_len}
use Rattle.std.proofs.lemmas.List.FromFn.{get_or-map-range_with_len}
use Rattle.aes_cbc.specs.Field.{◌•◌, power_of_x, polynomial_product, remainder, inverse}
use Rattle.aes_cbc.specs.Substitution.{sub_byte, inv_sub_byte, affine, inv_affine, number_of_bits}
use Rattle.aes_cbc.specs.declared.tables.TheConstants.{S_BOX, INV_S_BOX, MIXED, INV_MIXED, ROUND_CONSTANTS}

-- the table of a function's first n values gives its value at each of these places
from_table_of : (n : ℕ) (table : List ℕ) (f : ℕ → ℕ) → map f (range_with_len 0 n) ≡ table → (b : ℕ) → b < n → get_or table b 0 ≡ f b
from_table_of n table f is b small = ap (λ t. get_or t b 0) (sym is) ∙ get_or-map-range_with_len f 0 n b b 0 small (omega arith)

-- the table of a function gives its value at each byte
from_table : (table : List ℕ) (f : ℕ → ℕ) → map f (range_with_len 0 256) ≡ table → (b : ℕ) → b < 256 → get_or table b 0 ≡ f b
from_table = from_table_of 256

pub at_s_box : (b : ℕ) → b < 256 → get_or S_BOX b 0 ≡ sub_byte b
unfolding sub_byte affine number_of_bits inverse ◌•◌ polynomial_product remainder
at_s_box = from_table S_BOX sub_byte refl

pub at_inv_s_box : (b : ℕ) → b < 256 → get_or INV_S_BOX b 0 ≡ inv_sub_byte b
unfolding inv_sub_byte inv_affine number_of_bits inverse ◌•◌ polynomial_product remainder
at_inv_s_box = from_table INV_S_BOX inv_sub_byte refl

pub at_mixed : (b : ℕ) → b < 256 → get_or MIXED b 0 ≡ from_be_bytes w32 (2 • b ∷ 1 • b ∷ 1 • b ∷ 3 • b ∷ [])
unfolding ◌•◌ polynomial_product remainder
at_mixed = from_table MIXED (λ b. from_be_bytes w32 (2 • b ∷ 1 • b ∷ 1 • b ∷ 3 • b ∷ [])) refl

pub at_inv_mixed : (b : ℕ) → b < 256 → get_or INV_MIXED b 0 ≡ from_be_bytes w32 (14 • b ∷ 9 • b ∷ 13 • b ∷ 11 • b ∷ [])
unfolding ◌•◌ polynomial_product remainder
at_inv_mixed = from_table INV_MIXED (λ b. from_be_bytes w32 (14 • b ∷ 9 • b ∷ 13 • b ∷ 11 • b ∷ [])) refl

pub at_round_constants : (n : ℕ) → n < 10 → get_or ROUND_CONSTANTS n 0 ≡ power_of_x n
unfolding power_of_x ◌•◌ polynomial_product remainder
at_round_constants = from_table_of 10 ROUND_CONSTANTS power_of_x refl
