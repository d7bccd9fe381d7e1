-- The padding of a text to whole blocks of 16 bytes (RFC 5652, section 6.3).
use Rattle.std.specs.Prelude.{◌≡◌, ℕ, ◌-◌, ◌%◌, ◌≤◌, List, ◌++◌, length, drop, replicate}

-- the number of bytes that pad a text of n bytes to whole blocks of 16, from 1 to 16 (RFC 5652, 6.3)
abbrev pub padding_size : ℕ → ℕ
padding_size n = 16 - n % 16

-- a text and its padding: so many bytes, each of that value (RFC 5652, 6.3)
unfoldable pub padded : List ℕ → List ℕ
padded text = text ++ replicate (padding_size (length text)) (padding_size (length text))

-- these bytes are the text and a padding: p bytes of value p, with p from 1 to 16 (RFC 5652, 6.3)
pub record IsPaddedText (bytes text : List ℕ) : Type 0 where
  pub size : ℕ
  pub is_some : 1 ≤ size
  pub is_at_most_a_block : size ≤ 16
  pub is_whole : bytes ≡ text ++ replicate size size

-- a block that ends in a padding of this size
pub record EndsInPadding (block : List ℕ) (size : ℕ) : Type 0 where
  pub is_some : 1 ≤ size
  pub is_at_most_a_block : size ≤ 16
  pub is_tail : drop (16 - size) block ≡ replicate size size
