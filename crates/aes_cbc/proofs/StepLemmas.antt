-- Each step of a round, from its bytes place by place.
use Rattle.std.proofs.Common.{◌≡◌, ℕ, zero, suc, ◌+◌, ◌-◌, ◌*◌, ◌/◌, ◌%◌, ◌<◌, List, [], ◌∷◌, length, get_or, set, inl, inr, refl, sym, ap, ap₂, ◌∙◌, add-zero, arith}
use Rattle.std.proofs.lemmas.List.{ext_get_or, get_or-map, get_or-set_same, get_or-set_other, length-set}
use Rattle.std.proofs.lemmas.Bool.{cases_eq}
use Rattle.std.proofs.lemmas.List.Elements.{All-from_get_or}
use Rattle.aes_cbc.specs.Field.{◌⊕◌}
use Rattle.aes_cbc.specs.Substitution.{sub_byte, inv_sub_byte}
use Rattle.aes_cbc.specs.Block.{byte_at, block_of, sum_of_bytes, sub_bytes, inv_sub_bytes, shift_rows, inv_shift_rows, mixed_byte, mixed}
use Rattle.aes_cbc.specs.Laws.{IsBlock}
use Rattle.aes_cbc.proofs.BlockLemmas.{block_of-from, length-sum_of_bytes}

-- what the code knows of a block
pub block_from : (s : List ℕ) → length s ≡ 16 → ((i : ℕ) → get_or s i 0 < 256) → IsBlock s
block_from s l h =
    let P : ℕ → Type 0 = λ b. b < 256 in
    record { are_bytes = All-from_get_or P s 0 (λ i small. h i); is_whole = l }

get_or-sum_of_bytes : (xs ys : List ℕ) (k : ℕ) → length xs ≡ length ys → k < length xs → get_or (sum_of_bytes xs ys) k 0 ≡ get_or xs k 0 ⊕ get_or ys k 0
unfolding sum_of_bytes
get_or-sum_of_bytes [] ys k l h = absurd (omega arith)
get_or-sum_of_bytes (x ∷ xs) [] k l h = absurd (omega arith)
get_or-sum_of_bytes (x ∷ xs) (y ∷ ys) zero l h = refl
get_or-sum_of_bytes (x ∷ xs) (y ∷ ys) (suc k) l h = get_or-sum_of_bytes xs ys k (omega arith) (omega arith)

pub sum_from : (xs ys zs : List ℕ) → length xs ≡ 16 → length ys ≡ 16 → length zs ≡ 16
    → ((k : ℕ) → k < 16 → get_or zs k 0 ≡ get_or xs k 0 ⊕ get_or ys k 0) → zs ≡ sum_of_bytes xs ys
sum_from xs ys zs lx ly lz h =
    ext_get_or 0 zs (sum_of_bytes xs ys) (omega (arith, length-sum_of_bytes xs ys (lx ∙ sym ly)))
    (λ k small. h k (omega arith) ∙ sym (get_or-sum_of_bytes xs ys k (lx ∙ sym ly) (omega arith)))

pub substituted_from : (s t : List ℕ) → length s ≡ 16 → length t ≡ 16
    → ((k : ℕ) → k < 16 → get_or t k 0 ≡ sub_byte (byte_at s (k % 4) ((k / 4 + k % 4) % 4))) → t ≡ shift_rows (sub_bytes s)
unfolding shift_rows sub_bytes
substituted_from s t ls lt h =
    block_of-from (λ r c. byte_at (sub_bytes s) r ((c + r) % 4)) t lt (λ k small.
    h k small ∙ sym (get_or-map sub_byte s (k % 4 + 4 * ((k / 4 + k % 4) % 4)) 0 0 (omega arith)))

pub restored_from : (s t : List ℕ) → length t ≡ 16
    → ((k : ℕ) → k < 16 → get_or t k 0 ≡ inv_sub_byte (byte_at s (k % 4) ((k / 4 + 4 - k % 4) % 4))) → t ≡ inv_sub_bytes (inv_shift_rows s)
unfolding inv_shift_rows inv_sub_bytes block_of
restored_from s t lt h = block_of-from (λ r c. inv_sub_byte (byte_at s r ((c + 4 - r) % 4))) t lt h

-- ---- the columns mixed

-- the first bytes of a block that is to be made of a function of row and column
abbrev pub IsFilled : (ℕ → ℕ → ℕ) → List ℕ → ℕ → Type 0
IsFilled f t n = (length t ≡ 16) × ((k : ℕ) → k < n → get_or t k 0 ≡ f (k % 4) (k / 4))

-- the next byte
filled_more : (f : ℕ → ℕ → ℕ) (t : List ℕ) (r c x : ℕ) → r < 4 → c < 4 → IsFilled f t (4 * c + r) → x ≡ f r c → IsFilled f (set t (4 * c + r) x) (4 * c + suc r)
filled_more f t r c x hr hc filled is =
    let i : ℕ = 4 * c + r in
    let row : i % 4 ≡ r = omega arith in
    let column : i / 4 ≡ c = omega arith in
    let own : get_or (set t i x) i 0 ≡ f (i % 4) (i / 4) =
    get_or-set_same t i x 0 (omega (arith, filled.0)) ∙ is ∙ ap₂ f (sym row) (sym column) in (
      length-set t i x ∙ filled.0,
      λ k small. elim (cases_eq k i) [
        | inl same ↦ ap (λ j. get_or (set t i x) j 0) same ∙ own ∙ ap (λ j. f (j % 4) (j / 4)) (sym same)
        | inr other ↦ get_or-set_other t i k x 0 other ∙ filled.1 k (omega (arith, other))
      ],
    )

-- the next column
pub filled_column : (f : ℕ → ℕ → ℕ) (t : List ℕ) (c w x y z : ℕ) → c < 4 → IsFilled f t (4 * c) → w ≡ f 0 c → x ≡ f 1 c → y ≡ f 2 c → z ≡ f 3 c
    → IsFilled f (set (set (set (set t (4 * c) w) (4 * c + 1) x) (4 * c + 2) y) (4 * c + 3) z) (4 * (c + 1))
filled_column f t c w x y z hc filled ew ex ey ez =
    let first = rw (add-zero (4 * c)) at (filled_more f t 0 c w (omega arith) hc (rw (add-zero (4 * c)) filled) ew) in
    let second = filled_more f _ 1 c x (omega arith) hc first ex in
    let third = filled_more f _ 2 c y (omega arith) hc second ey in
    let last = filled_more f _ 3 c z (omega arith) hc third ez in
    (last.0, λ k small. last.1 k (omega arith))

-- all columns
pub mixed_from : (a b c d : ℕ) (s t : List ℕ) (n : ℕ) → n ≡ 4 → IsFilled (mixed_byte a b c d s) t (4 * n) → t ≡ mixed a b c d s
unfolding mixed
mixed_from a b c d s t n all filled = block_of-from (mixed_byte a b c d s) t filled.0 (λ k small. filled.1 k (omega arith))
