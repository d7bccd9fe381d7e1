-- InvMixColumns undoes MixColumns, and the other way round: two products of a column with four coefficients
-- are one product, whose coefficients are computed at each byte.
use Rattle.std.proofs.Common.{◌≡◌, ℕ, ◌+◌, ◌%◌, ◌<◌, List, refl, sym, ap, ap₂, ◌∙◌, arith}
use Rattle.std.proofs.lemmas.Nat.{xor_of_8}
use lib.Bits.{xor_zero_r}
use Rattle.aes_cbc.specs.Field.{◌⊕◌, ◌•◌, polynomial_product, remainder}
use Rattle.aes_cbc.specs.Block.{byte_at, mixed, mix_columns, inv_mix_columns}
use Rattle.aes_cbc.specs.Laws.{IsBlock}
use Rattle.aes_cbc.proofs.FieldLemmas.{sum_comm, sum_assoc, sum_exchange, product-sum, agree_at_bytes, byte_at_bytes}
use Rattle.aes_cbc.proofs.BlockLemmas.{byte_at-block_of, byte_at-lt, same_block, IsBlock-block_of}

-- ---- sums of four

-- the last one of four comes first
pub turn : (a b c d : ℕ) → a ⊕ b ⊕ c ⊕ d ≡ d ⊕ a ⊕ b ⊕ c
turn a b c d = sum_comm (a ⊕ b ⊕ c) d ∙ sym (sum_assoc d (a ⊕ b) c) ∙ ap (λ x. x ⊕ c) (sym (sum_assoc d a b))

-- two sums of four, added one by one
add_four : (a b c d x y z w : ℕ) → (a ⊕ b ⊕ c ⊕ d) ⊕ (x ⊕ y ⊕ z ⊕ w) ≡ (a ⊕ x) ⊕ (b ⊕ y) ⊕ (c ⊕ z) ⊕ (d ⊕ w)
add_four a b c d x y z w =
    sum_exchange (a ⊕ b ⊕ c) d (x ⊕ y ⊕ z) w
    ∙ ap (λ s. s ⊕ (d ⊕ w)) (sum_exchange (a ⊕ b) c (x ⊕ y) z ∙ ap (λ s. s ⊕ (c ⊕ z)) (sum_exchange a b x y))

-- four sums of four: by rows, or by columns
sum_by_columns : (a b c d a1 b1 c1 d1 a2 b2 c2 d2 a3 b3 c3 d3 : ℕ)
    → (a ⊕ b ⊕ c ⊕ d) ⊕ (a1 ⊕ b1 ⊕ c1 ⊕ d1) ⊕ (a2 ⊕ b2 ⊕ c2 ⊕ d2) ⊕ (a3 ⊕ b3 ⊕ c3 ⊕ d3)
    ≡ (a ⊕ a1 ⊕ a2 ⊕ a3) ⊕ (b ⊕ b1 ⊕ b2 ⊕ b3) ⊕ (c ⊕ c1 ⊕ c2 ⊕ c3) ⊕ (d ⊕ d1 ⊕ d2 ⊕ d3)
sum_by_columns a b c d a1 b1 c1 d1 a2 b2 c2 d2 a3 b3 c3 d3 =
    ap (λ s. s ⊕ (a2 ⊕ b2 ⊕ c2 ⊕ d2) ⊕ (a3 ⊕ b3 ⊕ c3 ⊕ d3)) (add_four a b c d a1 b1 c1 d1)
    ∙ ap (λ s. s ⊕ (a3 ⊕ b3 ⊕ c3 ⊕ d3)) (add_four (a ⊕ a1) (b ⊕ b1) (c ⊕ c1) (d ⊕ d1) a2 b2 c2 d2)
    ∙ add_four (a ⊕ a1 ⊕ a2) (b ⊕ b1 ⊕ b2) (c ⊕ c1 ⊕ c2) (d ⊕ d1 ⊕ d2) a3 b3 c3 d3

-- sums of four equal ones
same_four : (a b c d x y z w : ℕ) → a ≡ x → b ≡ y → c ≡ z → d ≡ w → a ⊕ b ⊕ c ⊕ d ≡ x ⊕ y ⊕ z ⊕ w
same_four a b c d x y z w e f g h = ap₂ ◌⊕◌ (ap₂ ◌⊕◌ (ap₂ ◌⊕◌ e f) g) h

product-four : (p a b c d : ℕ) → p • (a ⊕ b ⊕ c ⊕ d) ≡ p • a ⊕ p • b ⊕ p • c ⊕ p • d
product-four p a b c d =
    product-sum p (a ⊕ b ⊕ c) d ∙ ap (λ s. s ⊕ p • d) (product-sum p (a ⊕ b) c ∙ ap (λ s. s ⊕ p • c) (product-sum p a b))

-- ---- two matrices

-- the coefficients of the two matrices' product: 1 for a byte's own row, and 0 for the others
pub record AreInverse (p0 p1 p2 p3 q0 q1 q2 q3 : ℕ) : Type 0 where
  pub own : (b : ℕ) → b < 256 → p0 • (q0 • b) ⊕ p1 • (q3 • b) ⊕ p2 • (q2 • b) ⊕ p3 • (q1 • b) ≡ b
  pub next : (b : ℕ) → b < 256 → p0 • (q1 • b) ⊕ p1 • (q0 • b) ⊕ p2 • (q3 • b) ⊕ p3 • (q2 • b) ≡ 0
  pub far : (b : ℕ) → b < 256 → p0 • (q2 • b) ⊕ p1 • (q1 • b) ⊕ p2 • (q0 • b) ⊕ p3 • (q3 • b) ≡ 0
  pub last : (b : ℕ) → b < 256 → p0 • (q3 • b) ⊕ p1 • (q2 • b) ⊕ p2 • (q1 • b) ⊕ p3 • (q0 • b) ≡ 0

module _ (p0 p1 p2 p3 q0 q1 q2 q3 : ℕ) (inverse : AreInverse p0 p1 p2 p3 q0 q1 q2 q3) where
  -- one byte of a column under both matrices
  column : (a b c d : ℕ) → a < 256 → b < 256 → c < 256 → d < 256
      → p0 • (q0 • a ⊕ q1 • b ⊕ q2 • c ⊕ q3 • d) ⊕ p1 • (q0 • b ⊕ q1 • c ⊕ q2 • d ⊕ q3 • a)
      ⊕ p2 • (q0 • c ⊕ q1 • d ⊕ q2 • a ⊕ q3 • b) ⊕ p3 • (q0 • d ⊕ q1 • a ⊕ q2 • b ⊕ q3 • c)
      ≡ a
  column a b c d ha hb hc hd =
      let e0 = product-four p0 (q0 • a) (q1 • b) (q2 • c) (q3 • d) in
      let e1 = ap (λ s. p1 • s) (turn (q0 • b) (q1 • c) (q2 • d) (q3 • a)) ∙ product-four p1 (q3 • a) (q0 • b) (q1 • c) (q2 • d) in
      let e2 =
      ap (λ s. p2 • s) (turn (q0 • c) (q1 • d) (q2 • a) (q3 • b) ∙ turn (q3 • b) (q0 • c) (q1 • d) (q2 • a))
      ∙ product-four p2 (q2 • a) (q3 • b) (q0 • c) (q1 • d) in
      let e3 =
      ap (λ s. p3 • s) (turn (q0 • d) (q1 • a) (q2 • b) (q3 • c) ∙ turn (q3 • c) (q0 • d) (q1 • a) (q2 • b) ∙ turn (q2 • b) (q3 • c) (q0 • d) (q1 • a))
      ∙ product-four p3 (q1 • a) (q2 • b) (q3 • c) (q0 • d) in
      same_four _ _ _ _ _ _ _ _ e0 e1 e2 e3
      ∙ sum_by_columns
      (p0 • (q0 • a)) (p0 • (q1 • b)) (p0 • (q2 • c)) (p0 • (q3 • d))
      (p1 • (q3 • a)) (p1 • (q0 • b)) (p1 • (q1 • c)) (p1 • (q2 • d))
      (p2 • (q2 • a)) (p2 • (q3 • b)) (p2 • (q0 • c)) (p2 • (q1 • d))
      (p3 • (q1 • a)) (p3 • (q2 • b)) (p3 • (q3 • c)) (p3 • (q0 • d))
      ∙ same_four _ _ _ _ _ _ _ _ (inverse.own a ha) (inverse.next b hb) (inverse.far c hc) (inverse.last d hd)
      ∙ xor_zero_r (a ⊕ 0 ⊕ 0) ∙ xor_zero_r (a ⊕ 0) ∙ xor_zero_r a

  -- a byte of a block under the second matrix
  inner : List ℕ → ℕ → ℕ → ℕ
  inner s r c = q0 • byte_at s r c ⊕ q1 • byte_at s ((r + 1) % 4) c ⊕ q2 • byte_at s ((r + 2) % 4) c ⊕ q3 • byte_at s ((r + 3) % 4) c

  -- the same, some rows further down
  inner_at : (s : List ℕ) (r c i j k l : ℕ) → r < 4 → c < 4 → (i + 1) % 4 ≡ j → (i + 2) % 4 ≡ k → (i + 3) % 4 ≡ l
      → byte_at (mixed q0 q1 q2 q3 s) ((r + i) % 4) c
      ≡ q0 • byte_at s ((r + i) % 4) c ⊕ q1 • byte_at s ((r + j) % 4) c ⊕ q2 • byte_at s ((r + k) % 4) c ⊕ q3 • byte_at s ((r + l) % 4) c
  unfolding mixed inner
  inner_at s r c i j k l hr hc ej ek el =
      let f : ((r + i) % 4 + 1) % 4 ≡ (r + j) % 4 = omega arith in
      let g : ((r + i) % 4 + 2) % 4 ≡ (r + k) % 4 = omega arith in
      let h : ((r + i) % 4 + 3) % 4 ≡ (r + l) % 4 = omega arith in
      let at : ℕ → ℕ = λ x. byte_at s x c in
      byte_at-block_of (inner s) ((r + i) % 4) c (omega arith) hc
      ∙ same_four _ _ _ _ _ _ _ _ refl (ap (λ x. q1 • at x) f) (ap (λ x. q2 • at x) g) (ap (λ x. q3 • at x) h)

  pub mixed-mixed : (s : List ℕ) → IsBlock s → mixed p0 p1 p2 p3 (mixed q0 q1 q2 q3 s) ≡ s
  unfolding mixed
  mixed-mixed s block =
      let m : List ℕ = mixed q0 q1 q2 q3 s in
      same_block (λ r c. p0 • byte_at m r c ⊕ p1 • byte_at m ((r + 1) % 4) c ⊕ p2 • byte_at m ((r + 2) % 4) c ⊕ p3 • byte_at m ((r + 3) % 4) c)
      s block.is_whole (λ r c hr hc.
      let start : (r + 0) % 4 ≡ r = omega arith in
      let m0 = rw start at (inner_at s r c 0 1 2 3 hr hc refl refl refl) in
      let m1 = rw start at (inner_at s r c 1 2 3 0 hr hc refl refl refl) in
      let m2 = rw start at (inner_at s r c 2 3 0 1 hr hc refl refl refl) in
      let m3 = rw start at (inner_at s r c 3 0 1 2 hr hc refl refl refl) in
      same_four _ _ _ _ _ _ _ _ (ap (λ x. p0 • x) m0) (ap (λ x. p1 • x) m1) (ap (λ x. p2 • x) m2) (ap (λ x. p3 • x) m3)
      ∙ column (byte_at s r c) (byte_at s ((r + 1) % 4) c) (byte_at s ((r + 2) % 4) c) (byte_at s ((r + 3) % 4) c)
      (byte_at-lt s r c block hr hc) (byte_at-lt s ((r + 1) % 4) c block (omega arith) hc)
      (byte_at-lt s ((r + 2) % 4) c block (omega arith) hc) (byte_at-lt s ((r + 3) % 4) c block (omega arith) hc))

-- ---- the matrices of MixColumns and InvMixColumns

forth : AreInverse 14 11 13 9 2 3 1 1
unfolding ◌•◌ polynomial_product remainder
forth = record {
  own = agree_at_bytes (λ b. 14 • (2 • b) ⊕ 11 • (1 • b) ⊕ 13 • (1 • b) ⊕ 9 • (3 • b)) (λ b. b) refl;
  next = agree_at_bytes (λ b. 14 • (3 • b) ⊕ 11 • (2 • b) ⊕ 13 • (1 • b) ⊕ 9 • (1 • b)) (λ b. 0) refl;
  far = agree_at_bytes (λ b. 14 • (1 • b) ⊕ 11 • (3 • b) ⊕ 13 • (2 • b) ⊕ 9 • (1 • b)) (λ b. 0) refl;
  last = agree_at_bytes (λ b. 14 • (1 • b) ⊕ 11 • (1 • b) ⊕ 13 • (3 • b) ⊕ 9 • (2 • b)) (λ b. 0) refl;
}

back : AreInverse 2 3 1 1 14 11 13 9
unfolding ◌•◌ polynomial_product remainder
back = record {
  own = agree_at_bytes (λ b. 2 • (14 • b) ⊕ 3 • (9 • b) ⊕ 1 • (13 • b) ⊕ 1 • (11 • b)) (λ b. b) refl;
  next = agree_at_bytes (λ b. 2 • (11 • b) ⊕ 3 • (14 • b) ⊕ 1 • (9 • b) ⊕ 1 • (13 • b)) (λ b. 0) refl;
  far = agree_at_bytes (λ b. 2 • (13 • b) ⊕ 3 • (11 • b) ⊕ 1 • (14 • b) ⊕ 1 • (9 • b)) (λ b. 0) refl;
  last = agree_at_bytes (λ b. 2 • (9 • b) ⊕ 3 • (13 • b) ⊕ 1 • (11 • b) ⊕ 1 • (14 • b)) (λ b. 0) refl;
}

pub inv_mix_columns-mix_columns : (s : List ℕ) → IsBlock s → inv_mix_columns (mix_columns s) ≡ s
inv_mix_columns-mix_columns = mixed-mixed 14 11 13 9 2 3 1 1 forth

pub mix_columns-inv_mix_columns : (s : List ℕ) → IsBlock s → mix_columns (inv_mix_columns s) ≡ s
mix_columns-inv_mix_columns = mixed-mixed 2 3 1 1 14 11 13 9 back

-- ---- bytes stay bytes

IsBlock-mixed : (a b c d : ℕ) (s : List ℕ) → ((x : ℕ) → x < 256 → a • x < 256) → ((x : ℕ) → x < 256 → b • x < 256)
    → ((x : ℕ) → x < 256 → c • x < 256) → ((x : ℕ) → x < 256 → d • x < 256) → IsBlock s → IsBlock (mixed a b c d s)
unfolding mixed
IsBlock-mixed a b c d s ha hb hc hd block =
    IsBlock-block_of (λ r k. a • byte_at s r k ⊕ b • byte_at s ((r + 1) % 4) k ⊕ c • byte_at s ((r + 2) % 4) k ⊕ d • byte_at s ((r + 3) % 4) k)
    (λ r k hr hk.
    let at_a = ha (byte_at s r k) (byte_at-lt s r k block hr hk) in
    let at_b = hb (byte_at s ((r + 1) % 4) k) (byte_at-lt s ((r + 1) % 4) k block (omega arith) hk) in
    let at_c = hc (byte_at s ((r + 2) % 4) k) (byte_at-lt s ((r + 2) % 4) k block (omega arith) hk) in
    let at_d = hd (byte_at s ((r + 3) % 4) k) (byte_at-lt s ((r + 3) % 4) k block (omega arith) hk) in
    xor_of_8 _ _ (xor_of_8 _ _ (xor_of_8 _ _ at_a at_b) at_c) at_d)

pub IsBlock-mix_columns : (s : List ℕ) → IsBlock s → IsBlock (mix_columns s)
unfolding ◌•◌ polynomial_product remainder
IsBlock-mix_columns s =
    IsBlock-mixed 2 3 1 1 s (byte_at_bytes (λ x. 2 • x) refl) (byte_at_bytes (λ x. 3 • x) refl) (byte_at_bytes (λ x. 1 • x) refl) (byte_at_bytes (λ x. 1 • x) refl)

pub IsBlock-inv_mix_columns : (s : List ℕ) → IsBlock s → IsBlock (inv_mix_columns s)
unfolding ◌•◌ polynomial_product remainder
IsBlock-inv_mix_columns s =
    IsBlock-mixed 14 11 13 9 s (byte_at_bytes (λ x. 14 • x) refl) (byte_at_bytes (λ x. 11 • x) refl) (byte_at_bytes (λ x. 13 • x) refl) (byte_at_bytes (λ x. 9 • x) refl)
