-- What the bytes of a login say.
use Rattle.std.proofs.Common.{◌≡◌, ℕ, zero, suc, ◌+◌, ◌^◌, ◌<◌, true, false, ◌==◌, if◌then◌else◌, List, [], ◌∷◌, ◌++◌, ◌⊎◌, inl, inr, None, Ok, length, FitsSigned, refl, sym, ap, subst, ◌∙◌, arith}
use Rattle.std.specs.Int.{w64, cast_signed, cast_unsigned}
use Rattle.std.specs.List.{AllByRecursion, find}
use Rattle.std.proofs.Math.Facts.{Fits-of_z}
use Rattle.std.proofs.lemmas.Bool.Decides.{nat_tests}
use Rattle.std.proofs.lemmas.Int.{to_z-of_z}
use Rattle.std.proofs.lemmas.List.{append-nil}
use Rattle.wire_format.specs.Spellings.{varint_field}
use Rattle.message_fields.specs.declared.field.PlacedField.{PlacedField}
use Rattle.message_fields.specs.declared.message.Message.{Message}
use Rattle.message_fields.specs.Fields.{whole_of}
use Rattle.message_fields.specs.Lookups.{has, bytes_of, number_or}
use Rattle.message_fields.specs.Readings.{IsWholeReading}
use Rattle.message_fields.specs.Unknown.{extra_of}
use Rattle.message_fields.specs.Faults.{is_of_wrong_kind, wire_fault, wrong_kind, kind_fault, missing, said_unless}
use Rattle.message_fields.specs.Written.{varint_unless_zero}
use Rattle.message_fields.proofs.WrittenMessages.{Written, a_number, some_bytes, written, placed, joined, joined_are, StandsAt, whole_stands, front_stands, slice_is, contents_stand}
use Rattle.message_fields.proofs.ExtraFields.{IsOfKept, all_bytes, canonical_is_kept}
use Rattle.message_fields.proofs.UnknownLookups.{AreUnknown, first_wrong, still_there, same_content, same_number}
use Rattle.message_fields.proofs.WrittenExtras.{kept_after, extra_is_read, after_unknown, extra_is, all_none}
use Rattle.sync_values.specs.declared.value.Password.{Password}
use Rattle.sync_specifics.specs.Logins.{login_fields, login_fault, login_of, login_bytes, SaysLogin}
use Rattle.sync_specifics.specs.Laws.{LoginsAreRead}

login_same : (a b : Password) → a.origin ≡ b.origin → a.user_element ≡ b.user_element → a.user_value ≡ b.user_value →
    a.pass_element ≡ b.pass_element → a.realm ≡ b.realm → a.secret ≡ b.secret → a.created ≡ b.created → a.extra ≡ b.extra → a ≡ b
login_same a b origins elements values passes realms secrets times extras =
    ap (λ text. record a { origin = text }) origins
    ∙ ap (λ text. record a { origin = b.origin; user_element = text }) elements
    ∙ ap (λ text. record a { origin = b.origin; user_element = b.user_element; user_value = text }) values
    ∙ ap (λ text. record b { pass_element = text; realm = a.realm; secret = a.secret; created = a.created; extra = a.extra }) passes
    ∙ ap (λ text. record b { realm = text; secret = a.secret; created = a.created; extra = a.extra }) realms
    ∙ ap (λ text. record b { secret = text; created = a.created; extra = a.extra }) secrets
    ∙ ap (λ time. record b { created = time; extra = a.extra }) times
    ∙ ap (λ text. record b { extra = text }) extras

-- these fields say the login, but for its extra
record AreTextsOf (input : List ℕ) (login : Password) (fields : List PlacedField) : Type 0 where
  pub are_there : AllByRecursion (λ number. has number fields ≡ true) (2 ∷ 3 ∷ 5 ∷ 6 ∷ 7 ∷ 8 ∷ [])
  pub are_right : find (is_of_wrong_kind login_fields) fields ≡ None
  pub origin : bytes_of input 3 fields ≡ login.origin
  pub user_element : bytes_of input 5 fields ≡ login.user_element
  pub user_value : bytes_of input 6 fields ≡ login.user_value
  pub pass_element : bytes_of input 7 fields ≡ login.pass_element
  pub realm : bytes_of input 2 fields ≡ login.realm
  pub secret : bytes_of input 8 fields ≡ login.secret
  pub created : cast_signed w64 (number_or 0 11 fields) ≡ login.created

-- nothing is at fault in them and the fields of an extra
no_fault : (input : List ℕ) (login : Password) (first rest : List PlacedField) (end : ℕ) → AreTextsOf input login first →
    AreUnknown login_fields rest → login_fault (record { fields = first ++ rest; wire_fault = None; end = end }) ≡ None
no_fault input login first rest end are unknown =
    let message : Message = record { fields = first ++ rest; wire_fault = None; end = end } in
    let there = are.are_there in
    all_none
    (wire_fault message ∷ wrong_kind login_fields message ∷ missing 2 message ∷ missing 3 message ∷ missing 5 message ∷ missing 6 message
    ∷ missing 7 message ∷ missing 8 message ∷ []) (
      refl,
      (
        ap kind_fault (first_wrong login_fields first rest unknown ∙ are.are_right),
        (
          still_there login_fields 2 first rest end refl unknown there.0,
          (
            still_there login_fields 3 first rest end refl unknown there.1.0,
            (
              still_there login_fields 5 first rest end refl unknown there.1.1.0,
              (
                still_there login_fields 6 first rest end refl unknown there.1.1.1.0,
                (
                  still_there login_fields 7 first rest end refl unknown there.1.1.1.1.0,
                  (still_there login_fields 8 first rest end refl unknown there.1.1.1.1.1.0, tt),
                ),
              ),
            ),
          ),
        ),
      ),
    )

-- they say the login
login_said : (input : List ℕ) (login : Password) (first rest : List PlacedField) → AreTextsOf input login first →
    AreUnknown login_fields rest → extra_of login_fields input (first ++ rest) ≡ login.extra →
    IsWholeReading input (whole_of input ∷ []) (record { fields = first ++ rest; wire_fault = None; end = length input }) →
    SaysLogin input (Ok login)
login_said input login first rest are unknown extra reading =
    let message : Message = record { fields = first ++ rest; wire_fault = None; end = length input } in
    record {
      message = message;
      is_reading = reading;
      is_said = ap Ok (login_same login (login_of input message)
          (sym (same_content login_fields input 3 first rest refl unknown ∙ are.origin))
          (sym (same_content login_fields input 5 first rest refl unknown ∙ are.user_element))
          (sym (same_content login_fields input 6 first rest refl unknown ∙ are.user_value))
          (sym (same_content login_fields input 7 first rest refl unknown ∙ are.pass_element))
          (sym (same_content login_fields input 2 first rest refl unknown ∙ are.realm))
          (sym (same_content login_fields input 8 first rest refl unknown ∙ are.secret))
          (sym (ap (cast_signed w64) (same_number login_fields 0 11 first rest refl unknown) ∙ are.created)) (sym extra))
          ∙ ap (λ fault. said_unless fault (login_of input message)) (sym (no_fault input login first rest (length input) are unknown));
    }

-- the fields of a login, as they are written, without the time when it was made
abbrev login_texts : Password → List Written → List Written
login_texts login more =
    some_bytes 2 login.realm ∷ some_bytes 3 login.origin ∷ some_bytes 5 login.user_element ∷ some_bytes 6 login.user_value
    ∷ some_bytes 7 login.pass_element ∷ some_bytes 8 login.secret ∷ more

-- a login that was made at time 0, which is not written
login_at_zero : (input : List ℕ) (login : Password) (kept : IsOfKept login_fields login.extra) → FitsSigned w64 login.created →
    cast_unsigned w64 login.created ≡ 0 → length input < 2 ^ 64 →
    StandsAt input (written (login_texts login []) ++ all_bytes kept.fields) 0 (length input) → SaysLogin input (Ok login)
login_at_zero input login kept fits none small stands =
    let texts : List Written = login_texts login [] in
    let all = contents_stand input 0 (0 + length (written texts)) texts
    (front_stands input (written texts) (all_bytes kept.fields) 0 (length input) stands) in
    let are : AreTextsOf input login (placed 0 texts)
    = record {
      are_there = (refl, (refl, (refl, (refl, (refl, (refl, tt))))));
      are_right = refl;
      origin = slice_is input login.origin _ _ all.1.0;
      user_element = slice_is input login.user_element _ _ all.1.1.0;
      user_value = slice_is input login.user_value _ _ all.1.1.1.0;
      pass_element = slice_is input login.pass_element _ _ all.1.1.1.1.0;
      realm = slice_is input login.realm _ _ all.0;
      secret = slice_is input login.secret _ _ all.1.1.1.1.1.0;
      created = sym (sym (to_z-of_z w64 login.created fits) ∙ ap (cast_signed w64) none);
    } in
    login_said input login (placed 0 texts) (kept_after 0 texts kept.fields) are
    (after_unknown login_fields 0 texts kept.fields kept.are_unknown)
    (extra_is login_fields input 0 (length input) texts kept.fields kept.are_kept kept.are_unknown stands refl ∙ sym kept.is_bytes)
    (extra_is_read input 0 (length input) texts kept.fields small (
      (omega arith, omega arith),
      (
        (omega arith, omega arith),
        ((omega arith, omega arith), ((omega arith, omega arith), ((omega arith, omega arith), ((omega arith, omega arith), tt)))),
      ),
    )
    kept.are_kept stands)

-- a login that was made at another time
login_at_some : (input : List ℕ) (login : Password) (kept : IsOfKept login_fields login.extra) → FitsSigned w64 login.created →
    length input < 2 ^ 64 →
    StandsAt input (written (login_texts login (a_number 11 (cast_unsigned w64 login.created) ∷ [])) ++ all_bytes kept.fields) 0 (length input) →
    SaysLogin input (Ok login)
login_at_some input login kept fits small stands =
    let texts : List Written = login_texts login (a_number 11 (cast_unsigned w64 login.created) ∷ []) in
    let all = contents_stand input 0 (0 + length (written texts)) texts
    (front_stands input (written texts) (all_bytes kept.fields) 0 (length input) stands) in
    let are : AreTextsOf input login (placed 0 texts)
    = record {
      are_there = (refl, (refl, (refl, (refl, (refl, (refl, tt))))));
      are_right = refl;
      origin = slice_is input login.origin _ _ all.1.0;
      user_element = slice_is input login.user_element _ _ all.1.1.0;
      user_value = slice_is input login.user_value _ _ all.1.1.1.0;
      pass_element = slice_is input login.pass_element _ _ all.1.1.1.1.0;
      realm = slice_is input login.realm _ _ all.0;
      secret = slice_is input login.secret _ _ all.1.1.1.1.1.0;
      created = to_z-of_z w64 login.created fits;
    } in
    login_said input login (placed 0 texts) (kept_after 0 texts kept.fields) are
    (after_unknown login_fields 0 texts kept.fields kept.are_unknown)
    (extra_is login_fields input 0 (length input) texts kept.fields kept.are_kept kept.are_unknown stands refl ∙ sym kept.is_bytes)
    (extra_is_read input 0 (length input) texts kept.fields small (
      (omega arith, omega arith),
      (
        (omega arith, omega arith),
        (
          (omega arith, omega arith),
          (
            (omega arith, omega arith),
            (
              (omega arith, omega arith),
              (
                (omega arith, omega arith),
                (((omega arith, omega arith), time_fits login fits), tt),
              ),
            ),
          ),
        ),
      ),
    ) kept.are_kept stands)
  where
    time_fits : (login : Password) → FitsSigned w64 login.created → cast_unsigned w64 login.created < 2 ^ 64
    time_fits login fits = (Fits-of_z {w = w64} {z = login.created} fits).fits

zero_or_not : (number : ℕ) → (number ≡ 0) ⊎ ((number == 0) ≡ false)
zero_or_not zero = inl refl
zero_or_not (suc number) = inr (grind (arith, nat_tests))

pub logins_are_read : LoginsAreRead
logins_are_read login fits canonical small =
    either login (canonical_is_kept login_fields login.extra canonical) fits small (zero_or_not (cast_unsigned w64 login.created))
  where
    texts_alone : (login : Password) (kept : IsOfKept login_fields login.extra) → cast_unsigned w64 login.created ≡ 0 →
        login_bytes login ≡ written (login_texts login []) ++ all_bytes kept.fields
    texts_alone login kept none =
        ap (λ time. joined [] (login_texts login []) ++ varint_unless_zero 11 time ++ login.extra) none
        ∙ ap (λ front. front ++ login.extra) (append-nil (joined [] (login_texts login [])) ∙ joined_are (login_texts login []))
        ∙ ap (λ extra. written (login_texts login []) ++ extra) kept.is_bytes

    texts_and_time : (login : Password) (kept : IsOfKept login_fields login.extra) → (cast_unsigned w64 login.created == 0) ≡ false →
        login_bytes login ≡ written (login_texts login (a_number 11 (cast_unsigned w64 login.created) ∷ [])) ++ all_bytes kept.fields
    texts_and_time login kept some =
        ap (λ b. joined [] (login_texts login []) ++ (if b then [] else varint_field 11 (cast_unsigned w64 login.created)) ++ login.extra) some
        ∙ ap (λ front. front ++ login.extra) (joined_are (login_texts login (a_number 11 (cast_unsigned w64 login.created) ∷ [])))
        ∙ ap (λ extra. written (login_texts login (a_number 11 (cast_unsigned w64 login.created) ∷ [])) ++ extra) kept.is_bytes

    either : (login : Password) (kept : IsOfKept login_fields login.extra) → FitsSigned w64 login.created → length (login_bytes login) < 2 ^ 64 →
        (cast_unsigned w64 login.created ≡ 0) ⊎ ((cast_unsigned w64 login.created == 0) ≡ false) → SaysLogin (login_bytes login) (Ok login)
    either login kept fits small (inl none) =
        login_at_zero (login_bytes login) login kept fits none small
        (subst (λ bytes. StandsAt (login_bytes login) bytes 0 (length (login_bytes login))) (texts_alone login kept none) (whole_stands (login_bytes login)))
    either login kept fits small (inr some) =
        login_at_some (login_bytes login) login kept fits small
        (subst (λ bytes. StandsAt (login_bytes login) bytes 0 (length (login_bytes login))) (texts_and_time login kept some) (whole_stands (login_bytes login)))
