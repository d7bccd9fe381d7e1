-- The names of types as words of a line.
use Rattle.std.proofs.Common.{◌≡◌, ◌≢◌, ℕ, List, [], ◌∷◌, codes, Some, None, refl, sym, subst, ◌∙◌}
use Rattle.client_tags.specs.declared.Kind.{Kind}
use Rattle.client_tags.specs.declared.Kind.TheVariants.{Nigori, Preference, Password}
use Rattle.sync_model.specs.Text.{kind_word}
use Rattle.schedule_text.specs.Grammar.{Fixed, fits, form_of, kind_forms}
use Rattle.schedule_text.specs.Refusals.{words_of}
use Rattle.schedule_text.proofs.Forms.{HasForm, is_other_word, passed_at}

pub no_kind : (line : List ℕ) → line ≢ codes "nigori" → line ≢ codes "preference" → line ≢ codes "password" → form_of (words_of line) kind_forms ≡ None
unfolding kind_forms
no_kind line one two three =
    passed_at (fits (words_of line) (Fixed (codes "nigori") ∷ [])) (Fixed (codes "nigori") ∷ []) _ (is_other_word line (codes "nigori") one)
    ∙ passed_at (fits (words_of line) (Fixed (codes "preference") ∷ [])) (Fixed (codes "preference") ∷ []) _ (is_other_word line (codes "preference") two)
    ∙ passed_at (fits (words_of line) (Fixed (codes "password") ∷ [])) (Fixed (codes "password") ∷ []) None (is_other_word line (codes "password") three)

kind_form : (kind : Kind) → HasForm kind_forms (kind_word kind ∷ [])
unfolding kind_forms kind_word
kind_form Nigori = record { form = Fixed (codes "nigori") ∷ []; is_form = refl }
kind_form Preference = record { form = Fixed (codes "preference") ∷ []; is_form = refl }
kind_form Password = record { form = Fixed (codes "password") ∷ []; is_form = refl }

pub kind_has_form : (words : List (List ℕ)) (kind : Kind) → words ≡ kind_word kind ∷ [] → HasForm kind_forms words
kind_has_form words kind is = subst (HasForm kind_forms) (sym is) (kind_form kind)
