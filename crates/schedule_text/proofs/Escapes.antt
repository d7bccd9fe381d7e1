-- A word spells one text at most.
use Rattle.std.proofs.Common.{Option, Some, None, MatchOption, Bor, ◌≡◌, ◌≢◌, ℕ, ◌/◌, ◌%◌, ◌<◌, ◌≤◌, Bool, true, false, cond, ◌==◌, List, [], ◌∷◌, ◌++◌, ◌⊎◌, inl, inr, refl, sym, ap, subst, ◌∙◌, arith, append_assoc}
use Rattle.std.specs.List.{AllByRecursion, flat_map}
use Rattle.std.specs.Fmt.{digit_glyph}
use Rattle.std.proofs.lemmas.Bool.{eqb-true, eqb-false}
use Rattle.std.proofs.lemmas.Bool.Decides.{nat_tests}
use Rattle.std.proofs.lemmas.List.{append-nil}
use Rattle.client_tags.specs.Tags.{percent_escape}
use Rattle.sync_model.specs.Text.{is_plain, byte_text, text_word}
use Rattle.schedule_text.specs.Spelling.{AreBytes}

-- each byte is past the space and the line end
abbrev pub AreVisible : List ℕ → Type 0
AreVisible words = AllByRecursion (λ byte. 33 ≤ byte) words

pub AllByRecursion-append : {A : Type 0} (P : A → Type 0) (xs ys : List A) → AllByRecursion P xs → AllByRecursion P ys → AllByRecursion P (xs ++ ys)
AllByRecursion-append P [] ys all more = more
AllByRecursion-append P (x ∷ xs) ys all more = (all.0, AllByRecursion-append P xs ys all.1 more)

glyph_is_visible : (d : ℕ) → 33 ≤ digit_glyph true d
glyph_is_visible d = grind (arith, nat_tests)

glyphs_same : (a b : ℕ) → a < 16 → b < 16 → digit_glyph true a ≡ digit_glyph true b → a ≡ b
glyphs_same a b p q e = grind (arith, nat_tests)

plain_is_visible : (byte : ℕ) → is_plain byte ≡ true → 33 ≤ byte
plain_is_visible byte e = grind (arith, nat_tests)

-- the two digits of a byte tell it
escapes_same : (x y : ℕ) (a b : List ℕ) → x < 256 → y < 256 → percent_escape x ++ a ≡ percent_escape y ++ b → (x ≡ y) × (a ≡ b)
escapes_same x y a b p q e =
    let high : digit_glyph true (x / 16) ≡ digit_glyph true (y / 16) = cc in
    let low : digit_glyph true (x % 16) ≡ digit_glyph true (y % 16) = cc in
    let h : x / 16 ≡ y / 16 = glyphs_same (x / 16) (y / 16) (omega arith) (omega arith) high in
    let l : x % 16 ≡ y % 16 = glyphs_same (x % 16) (y % 16) (omega arith) (omega arith) low in
    (omega arith, cc)

-- an escape is the front of no text but its own
escape_front_at : (plain : Bool) (x y : ℕ) (a b : List ℕ) → is_plain y ≡ plain → x < 256 → y < 256 → percent_escape x ++ a ≡ cond plain (y ∷ []) (percent_escape y) ++ b → (is_plain y ≡ false) × (x ≡ y) × (a ≡ b)
escape_front_at true x y a b is p q e =
    let percent : y ≡ 37 = cc in
    absurd (let no : is_plain 37 ≡ true = subst (λ (n : ℕ). is_plain n ≡ true) percent is in cc)
escape_front_at false x y a b is p q e = let same = escapes_same x y a b p q e in (is, same.0, same.1)

pub escape_front : (x y : ℕ) (a b : List ℕ) → x < 256 → y < 256 → percent_escape x ++ a ≡ byte_text y ++ b → (is_plain y ≡ false) × (x ≡ y) × (a ≡ b)
escape_front x y a b p q e = escape_front_at (is_plain y) x y a b refl p q e

plain_front_at : (plain : Bool) (x y : ℕ) (a b : List ℕ) → is_plain x ≡ true → x < 256 → y < 256 → x ∷ a ≡ cond plain (y ∷ []) (percent_escape y) ++ b → (x ≡ y) × (a ≡ b)
plain_front_at true x y a b is p q e = (cc, cc)
plain_front_at false x y a b is p q e =
    let percent : x ≡ 37 = cc in
    absurd (let no : is_plain 37 ≡ true = subst (λ (n : ℕ). is_plain n ≡ true) percent is in cc)

front_at : (plain : Bool) (x y : ℕ) (a b : List ℕ) → is_plain x ≡ plain → x < 256 → y < 256 → cond plain (x ∷ []) (percent_escape x) ++ a ≡ byte_text y ++ b → (x ≡ y) × (a ≡ b)
front_at true x y a b is p q e = plain_front_at (is_plain y) x y a b is p q e
front_at false x y a b is p q e = let same = escape_front x y a b p q e in (same.1, same.2)

-- no byte's text is the front of another's
pub fronts_same : (x y : ℕ) (a b : List ℕ) → x < 256 → y < 256 → byte_text x ++ a ≡ byte_text y ++ b → (x ≡ y) × (a ≡ b)
fronts_same x y a b p q e = front_at (is_plain x) x y a b refl p q e

escaped_none : (plain : Bool) (byte : ℕ) (digits rest : List ℕ) → is_plain byte ≡ plain → (is_plain byte ≡ false → digits ≢ digit_glyph true (byte / 16) ∷ digit_glyph true (byte % 16) ∷ rest) → 37 ∷ digits ≢ cond plain (byte ∷ []) (percent_escape byte) ++ rest
escaped_none true byte digits rest is none e =
    let percent : byte ≡ 37 = cc in
    let no : is_plain 37 ≡ true = subst (λ (n : ℕ). is_plain n ≡ true) percent is in
    cc
escaped_none false byte digits rest is none e = none is cc

escaped_some : (plain : Bool) (byte : ℕ) (digits rest : List ℕ) → plain ≡ false → digits ≡ digit_glyph true (byte / 16) ∷ digit_glyph true (byte % 16) ∷ rest → 37 ∷ digits ≡ cond plain (byte ∷ []) (percent_escape byte) ++ rest
escaped_some true byte digits rest is e = absurd cc
escaped_some false byte digits rest is e = ap (λ (l : List ℕ). 37 ∷ l) e

-- what two digits say after a `%`
pub escaped_is : (word digits : List ℕ) (r : Option (ℕ × Bor (List ℕ))) → word ≡ 37 ∷ digits
    → MatchOption r ((byte : ℕ) (rest : List ℕ) → byte < 256 → is_plain byte ≡ false → digits ≢ digit_glyph true (byte / 16) ∷ digit_glyph true (byte % 16) ∷ rest) (λ x. (is_plain x.0 ≡ false) × (digits ≡ digit_glyph true (x.0 / 16) ∷ digit_glyph true (x.0 % 16) ∷ x.1.now))
    → MatchOption r ((byte : ℕ) (rest : List ℕ) → byte < 256 → word ≢ byte_text byte ++ rest) (λ x. word ≡ byte_text x.0 ++ x.1.now)
escaped_is word digits None is h = λ byte rest fits e. escaped_none (is_plain byte) byte digits rest refl (h byte rest fits) (sym is ∙ e)
escaped_is word digits (Some x) is h = is ∙ escaped_some (is_plain x.0) x.0 digits x.1.now h.0 h.1

no_text_at : (plain : Bool) (x : ℕ) (a : List ℕ) → cond plain (x ∷ []) (percent_escape x) ++ a ≢ []
no_text_at true x a e = cc
no_text_at false x a e = cc

byte_text_stands : (x : ℕ) (a : List ℕ) → byte_text x ++ a ≢ []
byte_text_stands x a = no_text_at (is_plain x) x a

regrouped : (x : ℕ) (out rest : List ℕ) → flat_map byte_text (x ∷ out) ++ rest ≡ byte_text x ++ (flat_map byte_text out ++ rest)
regrouped x out rest = append_assoc (byte_text x) (flat_map byte_text out) rest

-- where some bytes are read and no more can be, the whole is the text of no bytes
pub no_bytes : (out rest text : List ℕ) → AreBytes out → AreBytes text → rest ≢ [] → ((byte : ℕ) (more : List ℕ) → byte < 256 → rest ≢ byte_text byte ++ more) → flat_map byte_text out ++ rest ≢ flat_map byte_text text
no_bytes [] rest [] read fits some none e = some e
no_bytes [] rest (y ∷ text) read fits some none e = none y (flat_map byte_text text) fits.0 e
no_bytes (x ∷ out) rest [] read fits some none e = byte_text_stands x (flat_map byte_text out ++ rest) (sym (regrouped x out rest) ∙ e)
no_bytes (x ∷ out) rest (y ∷ text) read fits some none e =
    let same = fronts_same x y (flat_map byte_text out ++ rest) (flat_map byte_text text) read.0 fits.0 (sym (regrouped x out rest) ∙ e) in
    no_bytes out rest text read.1 fits.1 some none same.1

pub bytes_same : (one other : List ℕ) → AreBytes one → AreBytes other → flat_map byte_text one ≡ flat_map byte_text other → one ≡ other
bytes_same [] [] p q e = refl
bytes_same [] (y ∷ other) p q e = absurd (byte_text_stands y (flat_map byte_text other) (sym e))
bytes_same (x ∷ one) [] p q e = absurd (byte_text_stands x (flat_map byte_text one) e)
bytes_same (x ∷ one) (y ∷ other) p q e =
    let same = fronts_same x y (flat_map byte_text one) (flat_map byte_text other) p.0 q.0 e in
    let rest = bytes_same one other p.1 q.1 same.1 in
    ap (λ (n : ℕ). n ∷ one) same.0 ∙ ap (λ (l : List ℕ). y ∷ l) rest

no_bytes_none : (text : List ℕ) → flat_map byte_text text ≡ [] → text ≡ []
no_bytes_none [] e = refl
no_bytes_none (x ∷ text) e = absurd (byte_text_stands x (flat_map byte_text text) e)

-- a text whose word is that of its bytes
pub record IsUsual (text : List ℕ) : Type 0 where
  pub is_word : text_word text ≡ flat_map byte_text text
  pub is_not_empty : text ≢ []
  pub is_not_dash : text ≢ 45 ∷ []

form_of_one : (dash : Bool) (x : ℕ) → (x == 45) ≡ dash → (x ∷ [] ≡ 45 ∷ []) ⊎ ((cond dash (percent_escape 45) (byte_text x) ≡ flat_map byte_text (x ∷ [])) × (x ∷ [] ≢ 45 ∷ []))
form_of_one true x is = inl (ap (λ (n : ℕ). n ∷ []) (eqb-true x 45 is))
form_of_one false x is = inr (sym (append-nil (byte_text x)), λ e. eqb-false x 45 is cc)

pub forms : (text : List ℕ) → (text ≡ []) ⊎ ((text ≡ 45 ∷ []) ⊎ IsUsual text)
unfolding text_word
forms [] = inl refl
forms (x ∷ []) =
    elim (form_of_one (x == 45) x refl) [
      | inl dash ↦ inr (inl dash)
      | inr usual ↦ inr (inr (record { is_word = usual.0; is_not_empty = λ e. cc; is_not_dash = usual.1 }))
    ]
forms (x ∷ y ∷ text) = inr (inr (record { is_word = refl; is_not_empty = λ e. cc; is_not_dash = λ e. cc }))

-- the word of the empty text, and of a dash
pub empty_word : text_word [] ≡ 45 ∷ []
unfolding text_word
empty_word = refl

pub dash_word : text_word (45 ∷ []) ≡ 37 ∷ 50 ∷ 68 ∷ []
unfolding text_word
dash_word = refl

-- a word that is none of the two is that of its bytes
pub usual_word : (word text : List ℕ) → word ≢ [] → word ≢ 45 ∷ [] → word ≡ flat_map byte_text text → word ≡ text_word text
usual_word word text some no_dash is =
    elim (forms text) [
      | inl none ↦ absurd (some (is ∙ ap (flat_map byte_text) none))
      | inr (inl dash) ↦ absurd (no_dash (is ∙ ap (flat_map byte_text) dash))
      | inr (inr usual) ↦ is ∙ sym usual.is_word
    ]

pub no_text : (word text : List ℕ) → word ≢ 45 ∷ [] → word ≢ 37 ∷ 50 ∷ 68 ∷ [] → word ≢ flat_map byte_text text → word ≢ text_word text
no_text word text no_dash no_escape none is =
    elim (forms text) [
      | inl empty ↦ no_dash (is ∙ ap text_word empty ∙ empty_word)
      | inr (inl dash) ↦ no_escape (is ∙ ap text_word dash ∙ dash_word)
      | inr (inr usual) ↦ none (is ∙ usual.is_word)
    ]

not_nil : (byte : ℕ) (bytes : List ℕ) → byte ∷ bytes ≢ []
not_nil byte bytes e = cc

-- each text has some word
pub word_stands : (text : List ℕ) → text_word text ≢ []
word_stands text e =
    elim (forms text) [
      | inl empty ↦ not_nil 45 [] (sym empty_word ∙ ap text_word (sym empty) ∙ e)
      | inr (inl dash) ↦ not_nil 37 (50 ∷ 68 ∷ []) (sym dash_word ∙ ap text_word (sym dash) ∙ e)
      | inr (inr usual) ↦ usual.is_not_empty (no_bytes_none text (sym usual.is_word ∙ e))
    ]

no_escaped_dash : (text : List ℕ) → AreBytes text → 37 ∷ 50 ∷ 68 ∷ [] ≢ flat_map byte_text text
no_escaped_dash [] fits e = cc
no_escaped_dash (y ∷ text) fits e =
    let same = escape_front 45 y [] (flat_map byte_text text) (omega arith) fits.0 e in
    let no : is_plain 45 ≡ false = subst (λ (n : ℕ). is_plain n ≡ false) (sym same.1) same.0 in
    cc

pub texts_same : (one other : List ℕ) → AreBytes one → AreBytes other → text_word one ≡ text_word other → one ≡ other
texts_same one other p q e =
    elim (forms one) [
      | inl empty ↦ elim (forms other) [
        | inl none ↦ empty ∙ sym none
        | inr (inl dash) ↦ absurd (let no : 45 ∷ [] ≡ 37 ∷ 50 ∷ 68 ∷ [] = sym empty_word ∙ ap text_word (sym empty) ∙ e ∙ ap text_word dash ∙ dash_word in cc)
        | inr (inr usual) ↦ absurd (usual.is_not_dash (sym (bytes_same (45 ∷ []) other (omega arith, tt) q (sym empty_word ∙ ap text_word (sym empty) ∙ e ∙ usual.is_word))))
      ]
      | inr (inl dash) ↦ elim (forms other) [
        | inl none ↦ absurd (let no : 37 ∷ 50 ∷ 68 ∷ [] ≡ 45 ∷ [] = sym dash_word ∙ ap text_word (sym dash) ∙ e ∙ ap text_word none ∙ empty_word in cc)
        | inr (inl too) ↦ dash ∙ sym too
        | inr (inr usual) ↦ absurd (no_escaped_dash other q (sym dash_word ∙ ap text_word (sym dash) ∙ e ∙ usual.is_word))
      ]
      | inr (inr usual) ↦ elim (forms other) [
        | inl none ↦ absurd (usual.is_not_dash (bytes_same one (45 ∷ []) p (omega arith, tt) (sym usual.is_word ∙ e ∙ ap text_word none ∙ empty_word)))
        | inr (inl dash) ↦ absurd (no_escaped_dash one p (sym (sym usual.is_word ∙ e ∙ ap text_word dash ∙ dash_word)))
        | inr (inr too) ↦ bytes_same one other p q (sym usual.is_word ∙ e ∙ too.is_word)
      ]
    ]

visible_at : (plain : Bool) (x : ℕ) → is_plain x ≡ plain → AreVisible (cond plain (x ∷ []) (percent_escape x))
visible_at true x is = (plain_is_visible x is, tt)
visible_at false x is = (omega arith, (glyph_is_visible (x / 16), (glyph_is_visible (x % 16), tt)))

bytes_are_visible : (text : List ℕ) → AreVisible (flat_map byte_text text)
bytes_are_visible [] = tt
bytes_are_visible (x ∷ text) = AllByRecursion-append (λ byte. 33 ≤ byte) (byte_text x) (flat_map byte_text text) (visible_at (is_plain x) x refl) (bytes_are_visible text)

-- a word has no space and no line end
pub word_is_visible : (text : List ℕ) → AreVisible (text_word text)
word_is_visible text =
    elim (forms text) [
      | inl empty ↦ subst AreVisible (sym (ap text_word empty ∙ empty_word)) (omega arith, tt)
      | inr (inl dash) ↦ subst AreVisible (sym (ap text_word dash ∙ dash_word)) (omega arith, (omega arith, (omega arith, tt)))
      | inr (inr usual) ↦ subst AreVisible (sym usual.is_word) (bytes_are_visible text)
    ]
