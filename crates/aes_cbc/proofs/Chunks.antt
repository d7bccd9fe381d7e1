-- A text and its blocks of 16 bytes.
use Rattle.std.proofs.Common.{◌≡◌, ℕ, zero, suc, ◌+◌, ◌*◌, ◌/◌, ◌%◌, ◌<◌, ◌≤◌, List, [], ◌∷◌, ◌++◌, length, take, drop, refl, sym, ap, ap₂, ◌∙◌, add-one, arith, All}
use Rattle.std.specs.List.{concat}
use Rattle.std.specs.Simd.{first_chunks}
use Rattle.std.proofs.lemmas.List.{length-take, length-drop, length-append, take-append-le, drop-append-le, take_at, drop_at, take-append-drop, drop-drop}
use Rattle.std.proofs.lemmas.List.Elements.{All-cons, All-nil, All-head, All-tail, All-take, All-drop}
use Rattle.aes_cbc.specs.Chaining.{blocks_of}
use Rattle.aes_cbc.specs.Laws.{AreBytes, IsBlock}

-- one chunk more stands at the end
pub chunks_more : (k : ℕ) (xs : List ℕ) → first_chunks 16 (k + 1) xs ≡ first_chunks 16 k xs ++ take 16 (drop (k * 16) xs) ∷ []
chunks_more zero xs = refl
chunks_more (suc k) xs =
    let next : 16 + k * 16 ≡ suc k * 16 = omega arith in
    let e : first_chunks 16 (suc k + 1) xs ≡ take 16 xs ∷ first_chunks 16 (k + 1) (drop 16 xs) = ap (λ n. first_chunks 16 n xs) (add-one (suc k)) ∙ sym (ap (λ n. take 16 xs ∷ first_chunks 16 n (drop 16 xs)) (add-one k)) in
    e ∙ ap (λ t. take 16 xs ∷ t) (chunks_more k (drop 16 xs) ∙ ap (λ t. first_chunks 16 k (drop 16 xs) ++ take 16 t ∷ []) (drop-drop (k * 16) 16 xs ∙ ap (λ n. drop n xs) next))

-- the chunks of a front do not see what follows
pub chunks-append : (k : ℕ) (xs ys : List ℕ) → k * 16 ≤ length xs → first_chunks 16 k (xs ++ ys) ≡ first_chunks 16 k xs
chunks-append zero xs ys h = refl
chunks-append (suc k) xs ys h =
    ap₂ ◌∷◌ (take-append-le 16 xs ys (omega arith))
    (ap (first_chunks 16 k) (drop-append-le 16 xs ys (omega arith)) ∙ chunks-append k (drop 16 xs) ys (omega (arith, length-drop 16 xs)))

-- the chunks of whole blocks make the text
concat-chunks : (k : ℕ) (xs : List ℕ) → length xs ≡ k * 16 → concat (first_chunks 16 k xs) ≡ xs
concat-chunks zero [] h = refl
concat-chunks zero (x ∷ xs) h = absurd (omega arith)
concat-chunks (suc k) xs h = ap (λ t. take 16 xs ++ t) (concat-chunks k (drop 16 xs) (omega (arith, length-drop 16 xs))) ∙ take-append-drop 16 xs

are_blocks-chunks : (k : ℕ) (xs : List ℕ) → AreBytes xs → k * 16 ≤ length xs → All IsBlock (first_chunks 16 k xs)
are_blocks-chunks zero xs h l = All-nil IsBlock
are_blocks-chunks (suc k) xs h l =
    let P : ℕ → Type 0 = λ b. b < 256 in
    let is_block : IsBlock (take 16 xs) = record { are_bytes = All-take P 16 xs h; is_whole = omega (arith, length-take 16 xs) } in
    All-cons IsBlock (take 16 xs) (first_chunks 16 k (drop 16 xs)) is_block
    (are_blocks-chunks k (drop 16 xs) (All-drop P 16 xs h) (omega (arith, length-drop 16 xs)))

pub length-chunks : (k : ℕ) (xs : List ℕ) → length (first_chunks 16 k xs) ≡ k
length-chunks zero xs = refl
length-chunks (suc k) xs = ap (λ n. suc n) (length-chunks k (drop 16 xs))

pub length-concat_of_blocks : (blocks : List (List ℕ)) → All IsBlock blocks → length (concat blocks) ≡ length blocks * 16
length-concat_of_blocks [] h = refl
length-concat_of_blocks (block ∷ blocks) h =
    omega (arith, length-append block (concat blocks), (All-head IsBlock block blocks h).is_whole, length-concat_of_blocks blocks (All-tail IsBlock block blocks h))

chunks-concat : (blocks : List (List ℕ)) → All IsBlock blocks → first_chunks 16 (length blocks) (concat blocks) ≡ blocks
chunks-concat [] h = refl
chunks-concat (block ∷ blocks) h =
    let whole : length block ≡ 16 = (All-head IsBlock block blocks h).is_whole in
    ap₂ ◌∷◌ (take_at block (concat blocks) 16 whole)
    (ap (first_chunks 16 (length blocks)) (drop_at block (concat blocks) 16 whole) ∙ chunks-concat blocks (All-tail IsBlock block blocks h))

-- the blocks of blocks are they
pub blocks_of-concat : (blocks : List (List ℕ)) → All IsBlock blocks → blocks_of (concat blocks) ≡ blocks
blocks_of-concat blocks h =
    let count : length (concat blocks) / 16 ≡ length blocks = omega (arith, length-concat_of_blocks blocks h) in
    ap (λ n. first_chunks 16 n (concat blocks)) count ∙ chunks-concat blocks h

-- a text of whole blocks is made of its blocks
pub concat-blocks_of : (text : List ℕ) → length text % 16 ≡ 0 → concat (blocks_of text) ≡ text
concat-blocks_of text h = concat-chunks (length text / 16) text (omega arith)

pub are_blocks-blocks_of : (text : List ℕ) → AreBytes text → All IsBlock (blocks_of text)
are_blocks-blocks_of text h = are_blocks-chunks (length text / 16) text h (omega arith)
