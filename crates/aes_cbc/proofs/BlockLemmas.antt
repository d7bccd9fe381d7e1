-- Blocks by row and column, and which steps undo one another.
use Rattle.std.proofs.Common.{◌≡◌, ℕ, suc, ◌+◌, ◌-◌, ◌*◌, ◌/◌, ◌%◌, ◌<◌, List, [], ◌∷◌, map, length, get_or, refl, sym, ap, ap₂, ◌∙◌, arith}
use Rattle.std.proofs.lemmas.List.{length-map}
use Rattle.std.proofs.lemmas.List.FromFn.{length-map-range_with_len, get_or-map-range_with_len, fill_by_all}
use Rattle.std.proofs.lemmas.List.Elements.{All-from_get_or, All-cons, All-head, All-tail, All-map, All-weaker}
use Rattle.std.proofs.lemmas.Nat.{xor_of_8}
use Rattle.aes_cbc.specs.Field.{◌⊕◌}
use Rattle.aes_cbc.specs.Substitution.{sub_byte, inv_sub_byte}
use Rattle.aes_cbc.specs.Block.{byte_at, block_of, sum_of_bytes, sub_bytes, inv_sub_bytes, shift_rows, inv_shift_rows}
use Rattle.aes_cbc.specs.Laws.{AreBytes, IsBlock}
use Rattle.aes_cbc.proofs.FieldLemmas.{sum_twice}
use Rattle.aes_cbc.proofs.ByteFacts.{sub_byte-lt, inv_sub_byte-lt, inv_sub_byte-sub_byte, sub_byte-inv_sub_byte}

-- ---- by row and column

pub length-block_of : (f : ℕ → ℕ → ℕ) → length (block_of f) ≡ 16
unfolding block_of
length-block_of f = length-map-range_with_len (λ i. f (i % 4) (i / 4)) 0 16

-- the byte at a place of the block that is made of a function
get_or-block_of : (f : ℕ → ℕ → ℕ) (i : ℕ) → i < 16 → get_or (block_of f) i 0 ≡ f (i % 4) (i / 4)
unfolding block_of
get_or-block_of f i h = get_or-map-range_with_len (λ k. f (k % 4) (k / 4)) 0 16 i i 0 h (omega arith)

pub byte_at-block_of : (f : ℕ → ℕ → ℕ) (r c : ℕ) → r < 4 → c < 4 → byte_at (block_of f) r c ≡ f r c
byte_at-block_of f r c h k =
    let row : (r + 4 * c) % 4 ≡ r = omega arith in
    let column : (r + 4 * c) / 4 ≡ c = omega arith in
    get_or-block_of f (r + 4 * c) (omega arith) ∙ ap (λ x. f x ((r + 4 * c) / 4)) row ∙ ap (f r) column

-- a block that has these bytes at each place
pub block_of-from : (f : ℕ → ℕ → ℕ) (s : List ℕ) → length s ≡ 16 → ((i : ℕ) → i < 16 → get_or s i 0 ≡ f (i % 4) (i / 4)) → s ≡ block_of f
unfolding block_of
block_of-from f s l h = fill_by_all (λ i. f (i % 4) (i / 4)) s 16 0 l h

-- a block whose bytes by row and column are those of another
pub same_block : (f : ℕ → ℕ → ℕ) (s : List ℕ) → length s ≡ 16 → ((r c : ℕ) → r < 4 → c < 4 → f r c ≡ byte_at s r c) → block_of f ≡ s
same_block f s l h =
    sym (block_of-from f s l (λ i small.
    let place : i ≡ i % 4 + 4 * (i / 4) = omega arith in
    ap (λ k. get_or s k 0) place ∙ sym (h (i % 4) (i / 4) (omega arith) (omega arith))))

pub byte_at-lt : (s : List ℕ) (r c : ℕ) → IsBlock s → r < 4 → c < 4 → byte_at s r c < 256
byte_at-lt s r c block h k = block.are_bytes (r + 4 * c) 0 (omega (arith, block.is_whole))

pub IsBlock-block_of : (f : ℕ → ℕ → ℕ) → ((r c : ℕ) → r < 4 → c < 4 → f r c < 256) → IsBlock (block_of f)
IsBlock-block_of f h = record {
  are_bytes =
      let P : ℕ → Type 0 = λ b. b < 256 in
      All-from_get_or P (block_of f) 0 (λ i l.
      let small : i < 16 = omega (arith, length-block_of f) in
      rw (get_or-block_of f i small) (h (i % 4) (i / 4) (omega arith) (omega arith)));
  is_whole = length-block_of f;
}

-- ---- sums of lists of bytes

pub length-sum_of_bytes : (xs ys : List ℕ) → length xs ≡ length ys → length (sum_of_bytes xs ys) ≡ length xs
unfolding sum_of_bytes
length-sum_of_bytes [] ys h = refl
length-sum_of_bytes (x ∷ xs) [] h = absurd (omega arith)
length-sum_of_bytes (x ∷ xs) (y ∷ ys) h = ap (λ n. suc n) (length-sum_of_bytes xs ys (omega arith))

-- what is added twice is gone
sum_of_bytes-twice : (xs ys : List ℕ) → length xs ≡ length ys → sum_of_bytes (sum_of_bytes xs ys) ys ≡ xs
unfolding sum_of_bytes
sum_of_bytes-twice [] ys h = refl
sum_of_bytes-twice (x ∷ xs) [] h = absurd (omega arith)
sum_of_bytes-twice (x ∷ xs) (y ∷ ys) h = ap₂ ◌∷◌ (sum_twice x y) (sum_of_bytes-twice xs ys (omega arith))

pub AreBytes-sum_of_bytes : (xs ys : List ℕ) → AreBytes xs → AreBytes ys → AreBytes (sum_of_bytes xs ys)
unfolding sum_of_bytes
AreBytes-sum_of_bytes [] ys h k = h
AreBytes-sum_of_bytes (x ∷ xs) [] h k = k
AreBytes-sum_of_bytes (x ∷ xs) (y ∷ ys) h k =
    let P : ℕ → Type 0 = λ b. b < 256 in
    All-cons P (x ⊕ y) (sum_of_bytes xs ys) (xor_of_8 x y (All-head P x xs h) (All-head P y ys k))
    (AreBytes-sum_of_bytes xs ys (All-tail P x xs h) (All-tail P y ys k))

pub IsBlock-sum : (xs ys : List ℕ) → IsBlock xs → IsBlock ys → IsBlock (sum_of_bytes xs ys)
IsBlock-sum xs ys h k = record {
  are_bytes = AreBytes-sum_of_bytes xs ys h.are_bytes k.are_bytes;
  is_whole = length-sum_of_bytes xs ys (h.is_whole ∙ sym k.is_whole) ∙ h.is_whole;
}

-- a block that is added twice is gone
pub sum_twice_of_blocks : (xs ys : List ℕ) → IsBlock xs → IsBlock ys → sum_of_bytes (sum_of_bytes xs ys) ys ≡ xs
sum_twice_of_blocks xs ys h k = sum_of_bytes-twice xs ys (h.is_whole ∙ sym k.is_whole)

-- ---- the bytes through the S-box

-- a map that undoes another one at each byte
undone : (f g : ℕ → ℕ) → ((b : ℕ) → b < 256 → g (f b) ≡ b) → (xs : List ℕ) → AreBytes xs → map g (map f xs) ≡ xs
undone f g h [] k = refl
undone f g h (x ∷ xs) k =
    let P : ℕ → Type 0 = λ b. b < 256 in
    ap₂ ◌∷◌ (h x (All-head P x xs k)) (undone f g h xs (All-tail P x xs k))

-- a map that gives a byte for each byte
pub AreBytes-map : (f : ℕ → ℕ) → ((b : ℕ) → b < 256 → f b < 256) → (xs : List ℕ) → AreBytes xs → AreBytes (map f xs)
AreBytes-map f h xs k =
    let P : ℕ → Type 0 = λ b. b < 256 in
    let Q : ℕ → Type 0 = λ b. f b < 256 in
    All-map P f xs (All-weaker P Q h xs k)

pub IsBlock-sub_bytes : (s : List ℕ) → IsBlock s → IsBlock (sub_bytes s)
unfolding sub_bytes
IsBlock-sub_bytes s h = record { are_bytes = AreBytes-map sub_byte sub_byte-lt s h.are_bytes; is_whole = length-map s sub_byte ∙ h.is_whole }

pub IsBlock-inv_sub_bytes : (s : List ℕ) → IsBlock s → IsBlock (inv_sub_bytes s)
unfolding inv_sub_bytes
IsBlock-inv_sub_bytes s h = record { are_bytes = AreBytes-map inv_sub_byte inv_sub_byte-lt s h.are_bytes; is_whole = length-map s inv_sub_byte ∙ h.is_whole }

pub inv_sub_bytes-sub_bytes : (s : List ℕ) → IsBlock s → inv_sub_bytes (sub_bytes s) ≡ s
unfolding sub_bytes inv_sub_bytes
inv_sub_bytes-sub_bytes s h = undone sub_byte inv_sub_byte inv_sub_byte-sub_byte s h.are_bytes

pub sub_bytes-inv_sub_bytes : (s : List ℕ) → IsBlock s → sub_bytes (inv_sub_bytes s) ≡ s
unfolding sub_bytes inv_sub_bytes
sub_bytes-inv_sub_bytes s h = undone inv_sub_byte sub_byte sub_byte-inv_sub_byte s h.are_bytes

-- ---- the rows shifted

pub IsBlock-shift_rows : (s : List ℕ) → IsBlock s → IsBlock (shift_rows s)
unfolding shift_rows
IsBlock-shift_rows s block = IsBlock-block_of (λ r c. byte_at s r ((c + r) % 4)) (λ r c h k. byte_at-lt s r ((c + r) % 4) block h (omega arith))

pub IsBlock-inv_shift_rows : (s : List ℕ) → IsBlock s → IsBlock (inv_shift_rows s)
unfolding inv_shift_rows
IsBlock-inv_shift_rows s block = IsBlock-block_of (λ r c. byte_at s r ((c + 4 - r) % 4)) (λ r c h k. byte_at-lt s r ((c + 4 - r) % 4) block h (omega arith))

pub inv_shift_rows-shift_rows : (s : List ℕ) → IsBlock s → inv_shift_rows (shift_rows s) ≡ s
unfolding shift_rows inv_shift_rows
inv_shift_rows-shift_rows s block =
    same_block (λ r c. byte_at (shift_rows s) r ((c + 4 - r) % 4)) s block.is_whole (λ r c h k.
    let round : ((c + 4 - r) % 4 + r) % 4 ≡ c = omega arith in
    byte_at-block_of (λ x y. byte_at s x ((y + x) % 4)) r ((c + 4 - r) % 4) h (omega arith) ∙ ap (byte_at s r) round)

pub shift_rows-inv_shift_rows : (s : List ℕ) → IsBlock s → shift_rows (inv_shift_rows s) ≡ s
unfolding shift_rows inv_shift_rows
shift_rows-inv_shift_rows s block =
    same_block (λ r c. byte_at (inv_shift_rows s) r ((c + r) % 4)) s block.is_whole (λ r c h k.
    let round : ((c + r) % 4 + 4 - r) % 4 ≡ c = omega arith in
    byte_at-block_of (λ x y. byte_at s x ((y + 4 - x) % 4)) r ((c + r) % 4) h (omega arith) ∙ ap (byte_at s r) round)
