-- What holds of all tags, by the definitions alone.
use Rattle.std.specs.Prelude.{◌≡◌, ◌<◌, ℕ, List}
use Rattle.std.specs.List.{AllByRecursion}
use Rattle.client_tags.specs.Tags.{password_tag}

-- the five texts by which a login is known
pub record LoginTexts : Type 0 where
  pub origin : List ℕ
  pub user_element : List ℕ
  pub user_value : List ℕ
  pub pass_element : List ℕ
  pub realm : List ℕ

-- the tag of a login
abbrev pub tag_of : LoginTexts → List ℕ
tag_of login = password_tag login.origin login.user_element login.user_value login.pass_element login.realm

-- each number is a byte
abbrev pub AreBytes : List ℕ → Type 0
AreBytes text = AllByRecursion (λ byte. byte < 256) text

-- each of a login's texts is one of bytes
pub record AreLoginTexts (login : LoginTexts) : Type 0 where
  pub origin : AreBytes login.origin
  pub user_element : AreBytes login.user_element
  pub user_value : AreBytes login.user_value
  pub pass_element : AreBytes login.pass_element
  pub realm : AreBytes login.realm

-- two logins with one tag are one login
abbrev pub TagsTellLogins : Type 0
TagsTellLogins = (one other : LoginTexts) → AreLoginTexts one → AreLoginTexts other → tag_of one ≡ tag_of other → one ≡ other
