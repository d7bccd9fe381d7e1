use Rattle.std.proofs.Common.{[], ◌∷◌, ◌∙◌, refl, sym, arith}
use Rattle.schedule_text.proofs.Cuts.{no_length, not_same, some_bytes}
use Rattle.schedule_text.proofs.Escapes.{word_stands, empty_word, dash_word, usual_word, no_text}
use Rattle.schedule_text.proofs.text_word.text_of.Goals as goal

pub returns-then-is_empty : goal.returns-then-is_empty
returns-then-is_empty c = λ text right is. word_stands text (sym is ∙ no_length c.args.word.now c.if-is_empty.ensures)

pub returns-then-are_same : goal.returns-then-are_same
returns-then-are_same c = rw c.new.ensures (tt, c.if-are_same.ensures.0 refl ∙ sym empty_word)

pub returns-then-are_same-2 : goal.returns-then-are_same-2
returns-then-are_same-2 c = rw c.in_ok-from_slice.ensures ((omega arith, tt), c.if-are_same-2.ensures.0 refl ∙ sym dash_word)

pub returns-in-Some : goal.returns-in-Some
returns-in-Some c =
    let word = c.args.word.now in
    let found = rw c.in-Some.is at c.in_ok-bytes.ensures in
    rw c.from_vec.ensures (found.0, usual_word word c.in-Some.bytes.items (some_bytes word c.if-is_empty.ensures) (not_same word (45 ∷ []) c.if-are_same.ensures.1) found.1)

pub returns-in-None : goal.returns-in-None
returns-in-None c =
    let word = c.args.word.now in
    let none = rw c.in-None.is at c.in_ok-bytes.ensures in
    λ text right. no_text word text (not_same word (45 ∷ []) c.if-are_same.ensures.1) (not_same word (37 ∷ 50 ∷ 68 ∷ []) c.if-are_same-2.ensures.1) (none text right)
