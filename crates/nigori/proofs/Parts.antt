-- The parts of a sealed text's bytes, as the code splits them off.
use Rattle.std.proofs.Common.{◌≡◌, ℕ, ◌+◌, ◌-◌, List, length, take, drop, ◌∙◌, ap, ap₂, inl, inr, arith}
use Rattle.std.proofs.lemmas.List.{drop-drop}
use Rattle.aes_cbc.specs.Chaining.{AreWholeBlocks, HasBadLength}
use Rattle.nigori.specs.Sealing.{iv_in, cipher_in, tag_in}
use Rattle.nigori.specs.Unsealing.{HasGoodLength}

-- whole blocks have no bad length
pub no_bad_length : (cipher : List ℕ) → AreWholeBlocks cipher → HasBadLength cipher → ⊥
no_bad_length cipher whole (inl none) = omega (arith, whole.0, none)
no_bad_length cipher whole (inr part) = part whole.1

-- these are the parts of the bytes
pub record AreParts (bytes iv cipher tag : List ℕ) : Type 0 where
  pub is_iv : iv ≡ iv_in bytes
  pub is_cipher : cipher ≡ cipher_in bytes
  pub is_tag : tag ≡ tag_in bytes
  pub is_good : HasGoodLength bytes

pub parts_from : (bytes iv rest cipher tag : List ℕ) → iv ≡ take 16 bytes → rest ≡ drop 16 bytes → length rest + 16 ≡ length bytes
    → cipher ≡ take (length rest - 32) rest → tag ≡ drop (length rest - 32) rest → length cipher + 32 ≡ length rest
    → AreWholeBlocks cipher → AreParts bytes iv cipher tag
parts_from bytes iv rest cipher tag is_iv is_rest size is_cipher is_tag rest_size whole =
    let short : length rest - 32 ≡ length bytes - 48 = omega (arith, size) in
    let place : 16 + (length rest - 32) ≡ length bytes - 32 = omega (arith, size, rest_size) in
    record {
      is_iv = is_iv;
      is_cipher = is_cipher ∙ ap₂ take short is_rest;
      is_tag = is_tag ∙ ap (λ r. drop (length rest - 32) r) is_rest ∙ drop-drop (length rest - 32) 16 bytes ∙ ap (λ n. drop n bytes) place;
      is_good = (omega (arith, size, rest_size, whole.0, whole.1), omega (arith, size, rest_size, whole.0, whole.1));
    }
