-- Where the head of a message ends (RFC 9112, section 2.1).
use Rattle.std.specs.Prelude.{◌≡◌, ℕ, ◌<◌, List, length, take, Bool, true, false, ◌||◌, codes}
use Rattle.std.specs.List.{ends_with}
use Rattle.std.specs.Bool.{nat_eq}

-- the longest head that is read
abbrev pub longest_head : ℕ
longest_head = 16384

-- the most header fields that a head may have
abbrev pub most_fields : ℕ
most_fields = 64

-- the bytes end with an empty line: a line feed right behind another one, or with one carriage return between them
unfoldable pub ends_with_empty_line : List ℕ → Bool
ends_with_empty_line bytes = ends_with nat_eq bytes (codes "\n\n") || ends_with nat_eq bytes (codes "\n\r\n")

-- no front of the bytes ends with an empty line
abbrev pub HasNoEmptyLine : List ℕ → Type 0
HasNoEmptyLine bytes = (count : ℕ) → ends_with_empty_line (take count bytes) ≡ false

-- the bytes end with an empty line, and no shorter front of them does
pub record EndsAtEmptyLine (head : List ℕ) : Type 0 where
  pub ends : ends_with_empty_line head ≡ true
  pub first : (count : ℕ) → count < length head → ends_with_empty_line (take count head) ≡ false
