-- The text of a script, as it is written part by part.
use Rattle.std.proofs.Common.{◌≡◌, List, [], ◌∷◌, ◌++◌, ℕ, drop, refl, sym, ap, ◌∙◌, append_assoc}
use Rattle.std.specs.List.{join_with_byte}
use Rattle.sync_values.specs.declared.edit.Edit.{Edit}
use Rattle.schedule_text.specs.declared.script.ScriptLine.TheVariants.{Change}
use Rattle.schedule_text.specs.Lines.{change_words}
use Rattle.schedule_text.specs.Printing.{spaced}
use Rattle.schedule_text.specs.Scripts.{script_line_text, script_words}
use Rattle.schedule_text.proofs.Printed.{join_spaced}

-- words that are each after a space, without the first space
without_space : (words : List (List ℕ)) → drop 1 (spaced words) ≡ join_with_byte 32 words
unfolding spaced
without_space [] = refl
without_space (word ∷ words) = sym (join_spaced word words)

pub bare_printed : (old new none written whole rest : List ℕ) (words : List (List ℕ)) → none ≡ [] → written ≡ none ++ spaced words → whole ≡ written → rest ≡ drop 1 whole → new ≡ old ++ rest → new ≡ old ++ join_with_byte 32 words
bare_printed old new none written whole rest words none_is written_is whole_is rest_is new_is =
    let is : whole ≡ spaced words = whole_is ∙ written_is ∙ ap (λ (t : List ℕ). t ++ spaced words) none_is in
    new_is ∙ ap (λ (t : List ℕ). old ++ t) (rest_is ∙ ap (drop 1) is ∙ without_space words)

pub change_line_printed : (old bare new : List ℕ) (edit : Edit) → bare ≡ old ++ join_with_byte 32 (change_words edit) → new ≡ bare ++ 10 ∷ [] → new ≡ old ++ script_line_text (Change edit)
unfolding script_line_text script_words
change_line_printed old bare new edit bare_is new_is =
    new_is ∙ ap (λ (t : List ℕ). t ++ 10 ∷ []) bare_is ∙ append_assoc old (join_with_byte 32 (change_words edit)) (10 ∷ [])
