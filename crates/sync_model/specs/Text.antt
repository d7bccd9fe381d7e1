-- Bytes, numbers and types as the words of a line.
use Rattle.std.specs.Prelude.{ℕ, Bool, ◌==◌, ◌&&◌, not, nat_le, if◌then◌else◌, List, [], ◌∷◌, codes}
use Rattle.std.specs.List.{flat_map}
use Rattle.client_tags.specs.declared.Kind.{Kind}
use Rattle.client_tags.specs.declared.Kind.TheVariants.{Nigori, Preference, Password}
use Rattle.client_tags.specs.Tags.{percent_escape}

-- the visible ASCII bytes but `%`, which stand for themselves in a word
abbrev pub is_plain : ℕ → Bool
is_plain byte = nat_le 33 byte && nat_le byte 126 && not (byte == 37)

-- a byte in a word
abbrev pub byte_text : ℕ → List ℕ
byte_text byte = if is_plain byte then byte ∷ [] else percent_escape byte

-- the word of a text: the empty text is `-`, so the text `-` is `%2D`
unfoldable pub text_word : List ℕ → List ℕ
text_word [] = 45 ∷ []
text_word (byte ∷ []) = if byte == 45 then percent_escape 45 else byte_text byte
text_word (first ∷ second ∷ rest) = flat_map byte_text (first ∷ second ∷ rest)

-- the name of a type
unfoldable pub kind_word : Kind → List ℕ
kind_word Nigori = codes "nigori"
kind_word Preference = codes "preference"
kind_word Password = codes "password"
