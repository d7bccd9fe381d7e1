-- A line as pieces, one after another.
use Rattle.std.specs.Prelude.{ℕ, List}
use Rattle.std.specs.Fmt.{decimal, signed_decimal}
use Rattle.text_lines.specs.declared.pieces.Piece.{Piece}
use Rattle.text_lines.specs.declared.pieces.Piece.TheVariants.{Text, Word, Number, Signed}
use Rattle.sync_model.specs.Text.{text_word}

-- what a piece adds to a text
abbrev pub piece_text : Piece → List ℕ
piece_text (Text text) = text.now
piece_text (Word text) = text_word text.now
piece_text (Number number) = decimal number
piece_text (Signed number) = signed_decimal number
