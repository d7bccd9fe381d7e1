-- PBKDF2 with HMAC-SHA-1 over lists of bytes (RFC 8018, 5.2).
use Rattle.std.specs.Prelude.{ℕ, ◌-◌, List, ◌++◌, take, map, fold, bit_xor}
use Rattle.std.specs.Fn.{iterate}
use Rattle.std.specs.Int.{w32, to_be_bytes, div_ceil}
use Rattle.std.specs.List.{zip, flat_map, range_with_len}
use Rattle.sha1.specs.Sha1.{sha1}
use Rattle.key_derivation.specs.Hmac.{hmac}

-- two lists of bytes xored byte by byte
abbrev pub xor_bytes : List ℕ → List ℕ → List ℕ
xor_bytes xs ys = map (λ pair. bit_xor pair.0 pair.1) (zip xs ys)

-- S || INT (i): the salt, and the block's number in four octets, the most significant one first (step 3)
abbrev pub first_text : List ℕ → ℕ → List ℕ
first_text salt number = salt ++ to_be_bytes w32 number

-- U_n: the pseudorandom function applied n times to the first text (step 3)
abbrev pub turn_value : (List ℕ → List ℕ) → List ℕ → ℕ → List ℕ
turn_value prf text n = iterate prf n text

-- F (P, S, c, i): U_1 xor U_2 xor .. xor U_c (step 3)
unfoldable pub xor_of_turns : (List ℕ → List ℕ) → List ℕ → ℕ → List ℕ
xor_of_turns prf text turns =
    fold xor_bytes (turn_value prf text 1) (map (turn_value prf text) (range_with_len 2 (turns - 1)))

-- T_i: that of the password's HMAC and of the block's first text (step 3)
abbrev pub block_of : List ℕ → List ℕ → ℕ → ℕ → List ℕ
block_of pass salt turns number = xor_of_turns (hmac sha1 pass) (first_text salt number) turns

-- T_1 || T_2 || .. || T_l (step 4)
abbrev pub blocks : List ℕ → List ℕ → ℕ → ℕ → List ℕ
blocks pass salt turns count = flat_map (block_of pass salt turns) (range_with_len 1 count)

-- the derived key: the first bytes of as many blocks of 20 bytes as its length needs (steps 2 and 4)
unfoldable pub pbkdf2 : List ℕ → List ℕ → ℕ → ℕ → List ℕ
pbkdf2 pass salt turns size = take size (blocks pass salt turns (div_ceil size 20))
