-- The blocks of PBKDF2, one after the other.
use Rattle.std.proofs.Common.{◌≡◌, ℕ, zero, suc, slice_index, ◌+◌, ◌-◌, ◌*◌, ◌<◌, List, [], ◌∷◌, ◌++◌, min, length, take, drop, map, lit<, refl, ap, sym, ◌∙◌, arith, length-append, length-drop}
use Rattle.std.specs.List.{flat_map, range_with_len}
use Rattle.std.specs.Int.{w32, to_be_bytes, div_ceil}
use Rattle.sha1.specs.Sha1.{sha1, digest_bytes}
use Rattle.key_derivation.specs.Hmac.{hmac}
use Rattle.std.proofs.lemmas.Grind.{flat_map-append, div_ceil_times}
use Rattle.std.proofs.lemmas.List.{append-nil, length-take-le, take_all, take_min}
use Rattle.std.proofs.lemmas.List.FromFn.{map-range_with_len_more}
use Rattle.std.proofs.lemmas.List.Folds.{flat_map-map}
use Rattle.std.proofs.lemmas.Slice.{take-put_mid}
use Rattle.std.proofs.Math.Seq.{take-append-add}
use borrow.Rule.Slice.PartMut.{put_mid, same_len_mid}
use Rattle.key_derivation.specs.Pbkdf2.{first_text, xor_of_turns, block_of, blocks, pbkdf2}
use Rattle.key_derivation.proofs.Turns.{length-xor_of_turns}

-- so many words of a hash value are four times as many bytes
length-digest_bytes : (h : List ℕ) (n : ℕ) → length (digest_bytes h n) ≡ 4 * n
unfolding digest_bytes
length-digest_bytes h zero = refl
length-digest_bytes h (suc n) =
    let last : length (to_be_bytes w32 (slice_index h n)) ≡ 4 = refl in
    omega (arith, length-append (digest_bytes h n) (to_be_bytes w32 (slice_index h n)), last, length-digest_bytes h n)

-- HMAC-SHA-1 has the length of a digest
length-hmac : (key text : List ℕ) → length (hmac sha1 key text) ≡ 20
unfolding hmac sha1
length-hmac key text = length-digest_bytes _ 5

-- and so has a block
pub length-block_of : (pass salt : List ℕ) (turns number : ℕ) → length (block_of pass salt turns number) ≡ 20
length-block_of pass salt turns number =
    length-xor_of_turns (hmac sha1 pass) (first_text salt number) (length-hmac pass) turns

-- one block more
pub blocks_more : (pass salt : List ℕ) (turns count : ℕ) →
    blocks pass salt turns (count + 1) ≡ blocks pass salt turns count ++ block_of pass salt turns (count + 1)
blocks_more pass salt turns count =
    let block : ℕ → List ℕ = block_of pass salt turns in
    let number : ℕ → ℕ = λ n. n in
    let first : 1 + count ≡ count + 1 = omega arith in
    sym (flat_map-map block number (range_with_len 1 (count + 1)))
    ∙ ap (flat_map block) (map-range_with_len_more number 1 count (count + 1) first)
    ∙ flat_map-append block (map number (range_with_len 1 count)) ((count + 1) ∷ [])
    ∙ ap (λ (before : List ℕ). before ++ (block (count + 1) ++ [])) (flat_map-map block number (range_with_len 1 count))
    ∙ ap (λ (last : List ℕ). flat_map block (range_with_len 1 count) ++ last) (append-nil (block (count + 1)))

-- the front of a list that is filled by pieces of at most 20 bytes, after one piece more
pub filled_more : (out whole block piece : List ℕ) (count total size wide : ℕ) → length out ≡ total → 20 * count < total →
    size ≡ min 20 (total - 20 * count) → wide ≡ size → length whole ≡ 20 * count → length block ≡ 20 → piece ≡ take size block →
    take (20 * count) out ≡ take total whole →
    take (20 * (count + 1)) (put_mid (20 * count) wide out piece) ≡ take total (whole ++ block)
filled_more out whole block piece count total size wide is_total inside is_size is_wide long_whole long_block is_piece so_far =
    let begin : ℕ = 20 * count in
    let end : ℕ = begin + size in
    let rest : ℕ = total - begin in
    let after : List ℕ = put_mid begin wide out piece in
    let long_piece : length piece ≡ size = ap length is_piece ∙ length-take-le size block (omega (arith, is_size, long_block)) in
    let long_part : length (take wide (drop begin out)) ≡ wide =
    length-take-le wide (drop begin out) (omega (arith, length-drop begin out, is_wide, is_size, is_total)) in
    let long_after : length after ≡ length out =
    same_len_mid begin wide out piece (long_piece ∙ sym is_wide ∙ sym long_part) in
    let ends : min (20 * (count + 1)) (length after) ≡ end = omega (arith, long_after, is_total, is_size, inside) in
    let sized : length whole + rest ≡ total = omega (arith, long_whole, inside) in
    sym (take_min (20 * (count + 1)) after)
    ∙ ap (λ (n : ℕ). take n after) ends
    ∙ take-put_mid begin wide out piece end (omega (arith, long_piece)) (omega (arith, is_total, inside))
    ∙ ap (λ (front : List ℕ). front ++ piece) (so_far ∙ take_all total whole (omega (arith, long_whole, inside)))
    ∙ ap (λ (next : List ℕ). whole ++ next) (is_piece ∙ ap (λ (n : ℕ). take n block) (omega (arith, is_size, long_block)) ∙ take_min rest block)
    ∙ sym (take-append-add whole block rest)
    ∙ ap (λ (n : ℕ). take n (whole ++ block)) sized

-- where all blocks are filled in, the list is the derived key
pub filled_all : (pass salt out : List ℕ) (turns size count : ℕ) → length out ≡ size → div_ceil size 20 ≡ count →
    take (20 * count) out ≡ take size (blocks pass salt turns count) → out ≡ pbkdf2 pass salt turns size
unfolding pbkdf2
filled_all pass salt out turns size count long is_count filled =
    sym (take_all (20 * count) out (omega (arith, (div_ceil_times size 20 (lit< tt)).0, long, is_count)))
    ∙ filled
    ∙ ap (λ (n : ℕ). take size (blocks pass salt turns n)) (sym is_count)

-- a key of 16 bytes is the front of the first block
pub first_key : (pass salt : List ℕ) (turns : ℕ) → take 16 (xor_of_turns (hmac sha1 pass) (first_text salt 1) turns) ≡ pbkdf2 pass salt turns 16
unfolding pbkdf2
first_key pass salt turns = ap (take 16) (sym (append-nil (block_of pass salt turns 1)))
