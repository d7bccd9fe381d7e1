-- The five texts that name a login.
use Rattle.std.specs.Prelude.{List, [], ◌∷◌, ℕ}
use Rattle.sync_model.specs.Text.{text_word}
use Rattle.schedule_text.specs.declared.change.Site.{Site}
use Rattle.schedule_text.specs.Spelling.{AreBytes}

-- they are bytes
abbrev pub AreSiteBytes : Site → Type 0
AreSiteBytes site =
    AreBytes site.origin × AreBytes site.user_element × AreBytes site.user_value × AreBytes site.pass_element
    × AreBytes site.realm

-- their words
abbrev pub site_words : Site → List (List ℕ)
site_words site =
    text_word site.origin ∷ text_word site.user_element ∷ text_word site.user_value ∷ text_word site.pass_element
    ∷ text_word site.realm ∷ []
