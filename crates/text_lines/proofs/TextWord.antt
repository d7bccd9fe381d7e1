-- The word of a text, as a writer comes to it.
use Rattle.std.proofs.Common.{◌≡◌, ◌≢◌, ℕ, List, [], ◌∷◌, ◌++◌, refl, ap, arith}
use Rattle.std.proofs.lemmas.Grind.{common_steps}
use Rattle.std.specs.List.{flat_map}
use Rattle.sync_model.specs.Text.{text_word, byte_text}

-- one byte that is not `-`
word_of_one : (byte : ℕ) → byte ∷ [] ≢ 45 ∷ [] → text_word (byte ∷ []) ≡ byte_text byte ++ []
unfolding text_word
word_of_one byte other =
    let differs : byte ≢ 45 = λ same. other (ap (λ b. b ∷ []) same) in
    grind (arith, common_steps)

-- neither empty nor `-`: each byte by itself
pub word_by_bytes : (text : List ℕ) → text ≢ [] → text ≢ 45 ∷ [] → text_word text ≡ flat_map byte_text text
unfolding text_word
word_by_bytes [] filled other = absurd (filled refl)
word_by_bytes (byte ∷ []) filled other = word_of_one byte other
word_by_bytes (first ∷ second ∷ rest) filled other = refl
