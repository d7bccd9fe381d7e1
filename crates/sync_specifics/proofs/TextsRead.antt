-- What the bytes of preferences and of encrypted texts say.
use Rattle.std.proofs.Common.{◌≡◌, ℕ, ◌+◌, ◌^◌, ◌<◌, ◌||◌, true, is_some, List, [], ◌∷◌, ◌++◌, None, Ok, length, refl, sym, ap, subst, ◌∙◌, arith}
use Rattle.message_fields.specs.declared.field.PlacedField.{PlacedField}
use Rattle.message_fields.specs.declared.message.Message.{Message}
use Rattle.message_fields.specs.Lookups.{has}
use Rattle.message_fields.specs.Readings.{IsReading, IsWholeReading}
use Rattle.message_fields.specs.Faults.{wire_fault, wrong_kind, kind_fault, missing, said_unless}
use Rattle.message_fields.proofs.WrittenMessages.{Written, some_bytes, written, placed, joined_are, StandsAt, whole_stands, front_stands, slice_is, contents_stand, message_of, written_is_read}
use Rattle.message_fields.proofs.ExtraFields.{Kept, IsOfKept, all_bytes, canonical_is_kept}
use Rattle.message_fields.proofs.UnknownLookups.{known_last, first_wrong, still_there, same_content}
use Rattle.message_fields.proofs.WrittenExtras.{kept_after, message_with, extra_is_read, after_unknown, extra_is, all_none}
use Rattle.sync_values.specs.declared.value.Preference.{Preference}
use Rattle.sync_specifics.specs.declared.sealed.Sealed.{Sealed}
use Rattle.sync_specifics.specs.SealedTexts.{sealed_fields, sealed_of, sealed_bytes}
use Rattle.sync_specifics.specs.Preferences.{preference_fields, preference_fault, preference_of, preference_bytes}
use Rattle.sync_specifics.specs.Specifics.{is_plain}
use Rattle.sync_specifics.specs.Laws.{PreferencesAreRead}

-- the fields of a preference, as they are written
abbrev pub preference_texts : Preference → List Written
preference_texts preference = some_bytes 1 preference.name ∷ some_bytes 2 preference.value ∷ []

-- the message of a preference with its extra
abbrev pub preference_message : ℕ → ℕ → Preference → List Kept → Message
preference_message begin end preference kept = message_with begin end (preference_texts preference) kept

preference_stands : (input : List ℕ) (preference : Preference) (kept : IsOfKept preference_fields preference.extra) (begin end : ℕ) →
    StandsAt input (preference_bytes preference) begin end →
    StandsAt input (written (preference_texts preference) ++ all_bytes kept.fields) begin end
preference_stands input preference kept begin end stands =
    subst (λ bytes. StandsAt input bytes begin end)
    (ap (λ front. front ++ preference.extra) (joined_are (preference_texts preference))
    ∙ ap (λ extra. written (preference_texts preference) ++ extra) kept.is_bytes) stands

-- they are read
pub preference_read : (input : List ℕ) (preference : Preference) (kept : IsOfKept preference_fields preference.extra) (begin end : ℕ) →
    length input < 2 ^ 64 → StandsAt input (preference_bytes preference) begin end →
    IsWholeReading input (record { begin = begin; end = end } ∷ []) (preference_message begin end preference kept.fields)
preference_read input preference kept begin end small stands =
    extra_is_read input begin end (preference_texts preference) kept.fields small ((omega arith, omega arith), ((omega arith, omega arith), tt))
    kept.are_kept (preference_stands input preference kept begin end stands)

preference_same : (a b : Preference) → a.name ≡ b.name → a.value ≡ b.value → a.extra ≡ b.extra → a ≡ b
preference_same a b names values extras =
    ap (λ name. record a { name = name }) names ∙ ap (λ value. record a { name = b.name; value = value }) values
    ∙ ap (λ extra. record b { extra = extra }) extras

-- they say the preference
pub preference_is : (input : List ℕ) (preference : Preference) (kept : IsOfKept preference_fields preference.extra) (begin end : ℕ) →
    StandsAt input (preference_bytes preference) begin end →
    preference ≡ preference_of input (preference_message begin end preference kept.fields)
preference_is input preference kept begin end stands =
    let texts : List Written = preference_texts preference in
    let whole = preference_stands input preference kept begin end stands in
    let all = contents_stand input begin (begin + length (written texts)) texts
    (front_stands input (written texts) (all_bytes kept.fields) begin end whole) in
    let unknown = after_unknown preference_fields begin texts kept.fields kept.are_unknown in
    let rest : List PlacedField = kept_after begin texts kept.fields in
    preference_same preference (preference_of input (preference_message begin end preference kept.fields))
    (sym (same_content preference_fields input 1 (placed begin texts) rest refl unknown ∙ slice_is input preference.name _ _ all.0))
    (sym (same_content preference_fields input 2 (placed begin texts) rest refl unknown ∙ slice_is input preference.value _ _ all.1.0))
    (kept.is_bytes ∙ sym (extra_is preference_fields input begin end texts kept.fields kept.are_kept kept.are_unknown whole refl))

-- nothing is at fault in them
pub preference_has_no_fault : (preference : Preference) (kept : IsOfKept preference_fields preference.extra) (begin end : ℕ) →
    preference_fault (preference_message begin end preference kept.fields) ≡ None
preference_has_no_fault preference kept begin end =
    let texts : List Written = preference_texts preference in
    let unknown = after_unknown preference_fields begin texts kept.fields kept.are_unknown in
    let rest : List PlacedField = kept_after begin texts kept.fields in
    let message : Message = preference_message begin end preference kept.fields in
    all_none (wire_fault message ∷ wrong_kind preference_fields message ∷ missing 1 message ∷ missing 2 message ∷ []) (
      refl,
      (
        ap kind_fault (first_wrong preference_fields (placed begin texts) rest unknown),
        (
          still_there preference_fields 1 (placed begin texts) rest end refl unknown refl,
          (still_there preference_fields 2 (placed begin texts) rest end refl unknown refl, tt),
        ),
      ),
    )

-- the preference has a name
pub preference_is_plain : (preference : Preference) (kept : IsOfKept preference_fields preference.extra) (begin end : ℕ) →
    is_plain (preference_message begin end preference kept.fields) ≡ true
preference_is_plain preference kept begin end =
    let texts : List Written = preference_texts preference in
    ap (λ found. is_some found || has 2 (placed begin texts ++ kept_after begin texts kept.fields))
    (known_last preference_fields 1 (placed begin texts) (kept_after begin texts kept.fields) refl
    (after_unknown preference_fields begin texts kept.fields kept.are_unknown))

pub preferences_are_read : PreferencesAreRead
preferences_are_read preference canonical small =
    let input : List ℕ = preference_bytes preference in
    let kept = canonical_is_kept preference_fields preference.extra canonical in
    let message : Message = preference_message 0 (length input) preference kept.fields in
    record {
      message = message;
      is_reading = preference_read input preference kept 0 (length input) small (whole_stands input);
      is_said = ap Ok (preference_is input preference kept 0 (length input) (whole_stands input))
          ∙ ap (λ fault. said_unless fault (preference_of input message)) (sym (preference_has_no_fault preference kept 0 (length input)));
    }

-- the fields of an encrypted text, as they are written
abbrev pub sealed_texts : Sealed → List Written
sealed_texts sealed = some_bytes 1 sealed.key_name ∷ some_bytes 2 sealed.blob ∷ []

sealed_stands : (input : List ℕ) (sealed : Sealed) (begin end : ℕ) → StandsAt input (sealed_bytes sealed) begin end →
    StandsAt input (written (sealed_texts sealed)) begin end
sealed_stands input sealed begin end stands =
    subst (λ bytes. StandsAt input bytes begin end) (joined_are (sealed_texts sealed)) stands

-- they are read
pub sealed_read : (input : List ℕ) (sealed : Sealed) (begin end : ℕ) → length input < 2 ^ 64 →
    StandsAt input (sealed_bytes sealed) begin end →
    IsReading sealed_fields input (record { begin = begin; end = end } ∷ []) (message_of sealed_fields begin end (sealed_texts sealed))
sealed_read input sealed begin end small stands =
    written_is_read sealed_fields input begin end (sealed_texts sealed) small
    ((omega arith, omega arith), ((omega arith, omega arith), tt)) (sealed_stands input sealed begin end stands)

sealed_same : (a b : Sealed) → a.key_name ≡ b.key_name → a.blob ≡ b.blob → a ≡ b
sealed_same a b names blobs = ap (λ name. record a { key_name = name }) names ∙ ap (λ blob. record b { blob = blob }) blobs

-- they say the encrypted text
pub sealed_is : (input : List ℕ) (sealed : Sealed) (begin end : ℕ) → StandsAt input (sealed_bytes sealed) begin end →
    sealed ≡ sealed_of input (message_of sealed_fields begin end (sealed_texts sealed))
sealed_is input sealed begin end stands =
    let all = contents_stand input begin end (sealed_texts sealed) (sealed_stands input sealed begin end stands) in
    sealed_same sealed (sealed_of input (message_of sealed_fields begin end (sealed_texts sealed)))
    (sym (slice_is input sealed.key_name _ _ all.0)) (sym (slice_is input sealed.blob _ _ all.1.0))
