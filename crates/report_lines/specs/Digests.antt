-- The line of a digest.
use Rattle.std.specs.Prelude.{ℕ, List, [], ◌∷◌, ◌++◌, codes}
use Rattle.hex.specs.Hex.{encode_lower}

-- a digest in lower-case hexadecimal
unfoldable pub digest_line : List ℕ → List ℕ
digest_line digest = codes "digest " ++ encode_lower digest ++ 10 ∷ []
