-- Tokens: the bytes by which a client tells a server how far it has come.
use Rattle.std.specs.Prelude.{◌≢◌, ℕ, ◌==◌, if◌then◌else◌, List, length}
use Rattle.std.specs.Int.{w64, to_be_bytes, from_be_bytes}

-- the token of a version: its eight bytes, the highest first
unfoldable pub token_of : ℕ → List ℕ
token_of version = to_be_bytes w64 version

-- a text that is no token: neither empty nor eight bytes long
abbrev pub HasBadLength : List ℕ → Type 0
HasBadLength text = (length text ≢ 0) × (length text ≢ 8)

-- the version that a token tells; 0 where it is no eight bytes
unfoldable pub version_of : List ℕ → ℕ
version_of token = if length token == 8 then from_be_bytes w64 token else 0
