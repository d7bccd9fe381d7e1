-- HMAC over lists of bytes, for a hash function that works on blocks of 64 bytes (RFC 2104, 2).
use Rattle.std.specs.Prelude.{ℕ, ◌-◌, List, ◌++◌, length, map, replicate, bit_xor, nat_lt, if◌then◌else◌}

-- the key as it is used: one that is longer than a block is hashed first
abbrev pub short_key : (List ℕ → List ℕ) → List ℕ → List ℕ
short_key hash key = if nat_lt 64 (length key) then hash key else key

-- the bytes, and zeros up to the length of a block (step 1)
abbrev pub zero_padded : List ℕ → List ℕ
zero_padded bytes = bytes ++ replicate (64 - length bytes) 0

-- a block with each of its bytes xored with the pad's
abbrev pub xored : List ℕ → ℕ → List ℕ
xored block pad = map (λ byte. bit_xor byte pad) block

-- K XOR ipad (step 2)
unfoldable pub inner_key : (List ℕ → List ℕ) → List ℕ → List ℕ
inner_key hash key = xored (zero_padded (short_key hash key)) 0x36

-- K XOR opad (step 5)
unfoldable pub outer_key : (List ℕ → List ℕ) → List ℕ → List ℕ
outer_key hash key = xored (zero_padded (short_key hash key)) 0x5c

-- H(K XOR opad, H(K XOR ipad, text)) (steps 3, 4, 6 and 7)
unfoldable pub hmac : (List ℕ → List ℕ) → List ℕ → List ℕ → List ℕ
hmac hash key text = hash (outer_key hash key ++ hash (inner_key hash key ++ text))
