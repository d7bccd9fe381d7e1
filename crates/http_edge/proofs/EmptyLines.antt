-- One byte more behind bytes without an empty line.
use Rattle.std.proofs.Common.{◌≡◌, ℕ, List, [], ◌∷◌, ◌++◌, length, true, false, refl, ◌∙◌, ap, arith, zero, suc, inl, inr, length-append}
use Rattle.std.proofs.lemmas.List.{take-append-le, take_all}
use Rattle.std.proofs.lemmas.Bool.{cases_lt}
use Rattle.http_edge.specs.Heads.{ends_with_empty_line, HasNoEmptyLine, EndsAtEmptyLine}

-- no byte, no empty line
pub none_in_no_bytes : HasNoEmptyLine []
unfolding ends_with_empty_line
none_in_no_bytes zero = refl
none_in_no_bytes (suc count) = refl

-- a byte that ends no empty line
pub one_more : (bytes : List ℕ) (byte : ℕ) → HasNoEmptyLine bytes → ends_with_empty_line (bytes ++ byte ∷ []) ≡ false
    → HasNoEmptyLine (bytes ++ byte ∷ [])
one_more bytes byte none last count =
    elim (cases_lt (length bytes) count) [
      | inl above ↦ ap ends_with_empty_line (take_all count (bytes ++ byte ∷ []) (grind (arith, length-append))) ∙ last
      | inr within ↦ ap ends_with_empty_line (take-append-le count bytes (byte ∷ []) within) ∙ none count
    ]

-- a byte that ends one
pub ends_there : (bytes : List ℕ) (byte : ℕ) → HasNoEmptyLine bytes → ends_with_empty_line (bytes ++ byte ∷ []) ≡ true
    → EndsAtEmptyLine (bytes ++ byte ∷ [])
ends_there bytes byte none last = record {
  ends = last;
  first = λ count below. ap ends_with_empty_line (take-append-le count bytes (byte ∷ []) (grind (arith, length-append))) ∙ none count;
}
