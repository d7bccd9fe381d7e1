-- The turns of PBKDF2, one after the other.
use Rattle.std.proofs.Common.{◌≡◌, ℕ, zero, suc, ◌+◌, ◌-◌, ◌≤◌, List, [], ◌∷◌, length, map, refl, ap, sym, ◌∙◌, add-one, arith}
use Rattle.std.specs.Fn.{iterate}
use Rattle.std.specs.List.{fold, range_with_len}
use Rattle.std.proofs.lemmas.List.FromFn.{map-range_with_len_more}
use Rattle.std.proofs.lemmas.List.Sums.{fold-append}
use Rattle.key_derivation.proofs.Xors.{length-xor_bytes}
use Rattle.key_derivation.specs.Pbkdf2.{xor_bytes, turn_value, xor_of_turns}

-- the last of several turns comes last
iterate_last : (prf : List ℕ → List ℕ) (n : ℕ) (text : List ℕ) → iterate prf (suc n) text ≡ prf (iterate prf n text)
iterate_last prf zero text = refl
iterate_last prf (suc n) text = iterate_last prf n (prf text)

-- one turn more
pub turn_value_more : (prf : List ℕ → List ℕ) (text : List ℕ) (n : ℕ) →
    turn_value prf text (n + 1) ≡ prf (turn_value prf text n)
turn_value_more prf text n = rw add-one (iterate_last prf n text)

-- one turn more, xored onto those before it
pub xor_of_turns_more : (prf : List ℕ → List ℕ) (text : List ℕ) (n : ℕ) → 1 ≤ n →
    xor_of_turns prf text (n + 1) ≡ xor_bytes (xor_of_turns prf text n) (turn_value prf text (n + 1))
unfolding xor_of_turns
xor_of_turns_more prf text n some =
    let later : ℕ = n - 1 in
    let count : n + 1 - 1 ≡ later + 1 = omega (arith, some) in
    let last : 2 + later ≡ n + 1 = omega (arith, some) in
    ap (λ (turns : ℕ). fold xor_bytes (turn_value prf text 1) (map (turn_value prf text) (range_with_len 2 turns))) count
    ∙ ap (fold xor_bytes (turn_value prf text 1)) (map-range_with_len_more (turn_value prf text) 2 later (n + 1) last)
    ∙ fold-append xor_bytes (turn_value prf text 1) (map (turn_value prf text) (range_with_len 2 later)) (turn_value prf text (n + 1) ∷ [])

-- if each turn gives 20 bytes, then so do all of them xored
pub length-xor_of_turns : (prf : List ℕ → List ℕ) (text : List ℕ) → ((any : List ℕ) → length (prf any) ≡ 20) → (turns : ℕ) →
    length (xor_of_turns prf text turns) ≡ 20
unfolding xor_of_turns
length-xor_of_turns prf text long zero = long text
length-xor_of_turns prf text long (suc zero) = long text
length-xor_of_turns prf text long (suc (suc n)) =
    let before : length (xor_of_turns prf text (suc n)) ≡ 20 = length-xor_of_turns prf text long (suc n) in
    let last : length (turn_value prf text (suc n + 1)) ≡ 20 =
    ap length (turn_value_more prf text (suc n)) ∙ long (turn_value prf text (suc n)) in
    ap (λ (turns : ℕ). length (xor_of_turns prf text turns)) (sym (add-one (suc n)))
    ∙ ap length (xor_of_turns_more prf text (suc n) (omega arith))
    ∙ length-xor_bytes (xor_of_turns prf text (suc n)) (turn_value prf text (suc n + 1)) (last ∙ sym before)
    ∙ before
