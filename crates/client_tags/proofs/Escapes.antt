-- An escaped text tells the text, also with `|` and more behind it.
use Rattle.std.proofs.Common.{◌≡◌, ◌≢◌, ℕ, ◌/◌, ◌%◌, ◌<◌, Bool, true, false, cond, List, [], ◌∷◌, ◌++◌, refl, sym, ap, subst, ◌∙◌, arith, append_assoc, lit<}
use Rattle.std.specs.Fmt.{digit_glyph}
use Rattle.std.proofs.lemmas.Bool.Decides.{nat_tests}
use Rattle.client_tags.specs.Tags.{is_unreserved, percent_escape, escaped}
use Rattle.client_tags.specs.Laws.{AreBytes, LoginTexts, tag_of, TagsTellLogins}

-- one byte of an escaped text
abbrev escaped_byte : Bool → ℕ → List ℕ
escaped_byte unreserved byte = cond unreserved (byte ∷ []) (percent_escape byte)

glyphs_same : (a b : ℕ) → a < 16 → b < 16 → digit_glyph true a ≡ digit_glyph true b → a ≡ b
glyphs_same a b p q e = grind (arith, nat_tests)

-- the two digits of a byte tell it
escapes_same : (x y : ℕ) (a b : List ℕ) → x < 256 → y < 256 → percent_escape x ++ a ≡ percent_escape y ++ b → (x ≡ y) × (a ≡ b)
escapes_same x y a b p q e =
    let high : digit_glyph true (x / 16) ≡ digit_glyph true (y / 16) = cc in
    let low : digit_glyph true (x % 16) ≡ digit_glyph true (y % 16) = cc in
    let h : x / 16 ≡ y / 16 = glyphs_same (x / 16) (y / 16) (omega arith) (omega arith) high in
    let l : x % 16 ≡ y % 16 = glyphs_same (x % 16) (y % 16) (omega arith) (omega arith) low in
    (omega arith, cc)

-- no unreserved byte begins an escape
no_escape : (x : ℕ) → is_unreserved x ≡ true → x ≢ 37
no_escape x is percent = cc (subst (λ (n : ℕ). is_unreserved n ≡ true) percent is)

-- `|` is no unreserved byte
no_bar : (x : ℕ) → is_unreserved x ≡ true → x ≢ 124
no_bar x is bar = cc (subst (λ (n : ℕ). is_unreserved n ≡ true) bar is)

-- no byte's escape is the front of another's
fronts_same : (u v : Bool) (x y : ℕ) (a b : List ℕ) → is_unreserved x ≡ u → is_unreserved y ≡ v → x < 256 → y < 256 → escaped_byte u x ++ a ≡ escaped_byte v y ++ b → (x ≡ y) × (a ≡ b)
fronts_same true true x y a b is it p q e = (cc, cc)
fronts_same true false x y a b is it p q e = absurd (no_escape x is cc)
fronts_same false true x y a b is it p q e = absurd (no_escape y it cc)
fronts_same false false x y a b is it p q e = escapes_same x y a b p q e

apart : (x y : ℕ) (xs ys : List ℕ) → x < y → x ∷ xs ≡ y ∷ ys → ⊥
apart x y xs ys lt e = let same : x ≡ y = cc in omega arith

-- no byte's escape begins with `|`
no_bar_front : (u : Bool) (x : ℕ) (a b : List ℕ) → is_unreserved x ≡ u → escaped_byte u x ++ a ≡ 124 ∷ b → ⊥
no_bar_front true x a b is e = no_bar x is cc
no_bar_front false x a b is e = apart 37 124 (digit_glyph true (x / 16) ∷ digit_glyph true (x % 16) ∷ a) b (lit< tt) e

first_byte : (x : ℕ) (xs more : List ℕ) → escaped (x ∷ xs) ++ more ≡ escaped_byte (is_unreserved x) x ++ (escaped xs ++ more)
first_byte x xs more = append_assoc (escaped_byte (is_unreserved x) x) (escaped xs) more

-- what stands before the first `|`, and behind it
parts_same : (xs ys a b : List ℕ) → AreBytes xs → AreBytes ys → escaped xs ++ 124 ∷ a ≡ escaped ys ++ 124 ∷ b → (xs ≡ ys) × (a ≡ b)
parts_same [] [] a b p q e = (refl, cc)
parts_same [] (y ∷ ys) a b p q e =
    absurd (no_bar_front (is_unreserved y) y (escaped ys ++ 124 ∷ b) a refl (sym (first_byte y ys (124 ∷ b)) ∙ sym e))
parts_same (x ∷ xs) [] a b p q e =
    absurd (no_bar_front (is_unreserved x) x (escaped xs ++ 124 ∷ a) b refl (sym (first_byte x xs (124 ∷ a)) ∙ e))
parts_same (x ∷ xs) (y ∷ ys) a b p q e =
    let first : (x ≡ y) × (escaped xs ++ 124 ∷ a ≡ escaped ys ++ 124 ∷ b) =
    fronts_same (is_unreserved x) (is_unreserved y) x y (escaped xs ++ 124 ∷ a) (escaped ys ++ 124 ∷ b) refl refl p.0 q.0
    (sym (first_byte x xs (124 ∷ a)) ∙ e ∙ first_byte y ys (124 ∷ b)) in
    let rest : (xs ≡ ys) × (a ≡ b) = parts_same xs ys a b p.1 q.1 first.1 in
    (cc (first.0, rest.0), rest.1)

-- the same of a last text
last_same : (xs ys : List ℕ) → AreBytes xs → AreBytes ys → escaped xs ≡ escaped ys → xs ≡ ys
last_same xs ys p q e = (parts_same xs ys [] [] p q (ap (λ (text : List ℕ). text ++ 124 ∷ []) e)).0

-- five texts with `|` between them, the first in front of the rest
five_parts : (a b c d e : List ℕ) → a ++ 124 ∷ b ++ 124 ∷ c ++ 124 ∷ d ++ 124 ∷ e ≡ a ++ 124 ∷ (b ++ 124 ∷ (c ++ 124 ∷ (d ++ 124 ∷ e)))
five_parts a b c d e = simp append_assoc

parts_of : (login : LoginTexts) → tag_of login ≡ escaped login.origin ++ 124 ∷ (escaped login.user_element ++ 124 ∷ (escaped login.user_value ++ 124 ∷ (escaped login.pass_element ++ 124 ∷ escaped login.realm)))
parts_of login = five_parts (escaped login.origin) (escaped login.user_element) (escaped login.user_value) (escaped login.pass_element) (escaped login.realm)

abbrev login_of : List ℕ → List ℕ → List ℕ → List ℕ → List ℕ → LoginTexts
login_of origin user_element user_value pass_element realm =
    record { origin = origin; user_element = user_element; user_value = user_value; pass_element = pass_element; realm = realm }

one_login : {a b c d e f g h i j : List ℕ} → a ≡ f → b ≡ g → c ≡ h → d ≡ i → e ≡ j → login_of a b c d e ≡ login_of f g h i j
one_login origin user_element user_value pass_element realm = cc

pub tags_tell_logins : TagsTellLogins
tags_tell_logins one other p q e =
    let parts = sym (parts_of one) ∙ e ∙ parts_of other in
    let origin = parts_same one.origin other.origin _ _ p.origin q.origin parts in
    let user_element = parts_same one.user_element other.user_element _ _ p.user_element q.user_element origin.1 in
    let user_value = parts_same one.user_value other.user_value _ _ p.user_value q.user_value user_element.1 in
    let pass_element = parts_same one.pass_element other.pass_element _ _ p.pass_element q.pass_element user_value.1 in
    let realm = last_same one.realm other.realm p.realm q.realm pass_element.1 in
    one_login origin.0 user_element.0 user_value.0 pass_element.0 realm
