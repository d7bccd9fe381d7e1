-- What the bytes of specifics say that stand in some input.
use Rattle.std.proofs.Common.{◌≡◌, ℕ, ◌^◌, ◌<◌, true, if◌then◌else◌, List, [], ◌∷◌, ◌++◌, Some, None, Ok, length, refl, sym, ap, subst, ◌∙◌, arith}
use Rattle.wire_format.specs.Spellings.{bytes_field}
use Rattle.client_tags.specs.declared.Kind.TheVariants as kinds
use Rattle.message_fields.specs.declared.field.Known.{Known}
use Rattle.message_fields.specs.declared.message.Message.{Message}
use Rattle.message_fields.specs.Faults.{first_fault, wire_fault, wrong_kind, said_unless}
use Rattle.message_fields.specs.Unknown.{IsCanonicalExtra}
use Rattle.message_fields.proofs.ExtraFields.{canonical_is_kept}
use Rattle.message_fields.proofs.WrittenExtras.{extra_is_read, nothing_whole}
use Rattle.message_fields.proofs.WrittenMessages.{Written, a_number, some_bytes, joined_are, StandsAt, whole_stands, contents_stand, message_of, content_begin, content_end, written_is_read, nothing_is_read}
use Rattle.sync_specifics.specs.declared.fields.SpecificsFields.{SpecificsFields}
use Rattle.sync_values.specs.declared.value.PassKind.{PassKind}
use Rattle.sync_values.specs.declared.value.PassKind.TheVariants.{Implicit, Keystore, Frozen, Custom, Vault}
use Rattle.sync_values.specs.declared.value.Preference.{Preference as APreference}
use Rattle.sync_specifics.specs.declared.sealed.Sealed.{Sealed}
use Rattle.sync_specifics.specs.declared.specifics.Specifics.{Specifics}
use Rattle.sync_specifics.specs.declared.specifics.Specifics.TheVariants.{EmptyOf, Preference, SealedPreference, Password, Nigori}
use Rattle.sync_values.specs.PassKinds.{pass_kind_number}
use Rattle.sync_specifics.specs.SealedTexts.{sealed_fields, sealed_of, sealed_bytes}
use Rattle.sync_specifics.specs.Preferences.{preference_fields, preference_fault, preference_of, preference_bytes}
use Rattle.sync_specifics.specs.Specifics.{specifics_fields, password_fields, nigori_fields, nigori_bytes, AreSpecificsFields, is_plain, specifics_fault, specifics_of, specifics_bytes}
use Rattle.sync_specifics.specs.Extras.{HasCanonicalExtra}
use Rattle.sync_specifics.specs.Laws.{SpecificsAreRead}
use Rattle.sync_specifics.proofs.TextsRead.{preference_message, preference_read, preference_is, preference_has_no_fault, preference_is_plain, sealed_texts, sealed_read, sealed_is}

-- nothing of a message
abbrev pub nothing : List Known → Message
nothing known = message_of known 0 0 []

-- the number of a passphrase's kind fits a varint
kind_small : (kind : PassKind) → pass_kind_number kind < 2 ^ 64
kind_small Implicit = omega arith
kind_small Keystore = omega arith
kind_small Frozen = omega arith
kind_small Custom = omega arith
kind_small Vault = omega arith

-- specifics that are read between two places of the input, in which nothing is at fault, and which say this
pub record IsInside (input : List ℕ) (at until : ℕ) (value : Specifics) : Type 0 where
  pub all : SpecificsFields
  pub are_fields : AreSpecificsFields input (record { begin = at; end = until } ∷ []) all
  pub no_fault : None ≡ specifics_fault all
  pub is_said : Some value ≡ specifics_of input all

-- an empty preference
empty_preference : (input : List ℕ) (at until : ℕ) → length input < 2 ^ 64 → StandsAt input (bytes_field 37702 []) at until →
    IsInside input at until (EmptyOf kinds.Preference)
empty_preference input at until small whole =
    let fields : List Written = some_bytes 37702 [] ∷ [] in
    let stands = subst (λ bytes. StandsAt input bytes at until) (joined_are fields) whole in
    let inner = contents_stand input at until fields stands in
    let begin : ℕ = content_begin at 37702 [] in
    let end : ℕ = content_end at 37702 [] in
    record {
      all = record {
        own = message_of specifics_fields at until fields;
        sealed = nothing sealed_fields;
        preference = message_of preference_fields begin end [];
        password = nothing password_fields;
        sealed_password = nothing sealed_fields;
        nigori = nothing nigori_fields;
        sealed_keys = nothing sealed_fields;
      };
      are_fields = record {
        own = written_is_read specifics_fields input at until fields small ((omega arith, omega arith), tt) stands;
        sealed = nothing_is_read sealed_fields input;
        preference = extra_is_read input begin end [] [] small tt tt inner.0;
        password = nothing_is_read password_fields input;
        sealed_password = nothing_is_read sealed_fields input;
        nigori = nothing_is_read nigori_fields input;
        sealed_keys = nothing_is_read sealed_fields input;
      };
      no_fault = refl;
      is_said = refl;
    }

-- an empty login
empty_password : (input : List ℕ) (at until : ℕ) → length input < 2 ^ 64 → StandsAt input (bytes_field 45873 []) at until →
    IsInside input at until (EmptyOf kinds.Password)
empty_password input at until small whole =
    let fields : List Written = some_bytes 45873 [] ∷ [] in
    let stands = subst (λ bytes. StandsAt input bytes at until) (joined_are fields) whole in
    let inner = contents_stand input at until fields stands in
    let begin : ℕ = content_begin at 45873 [] in
    let end : ℕ = content_end at 45873 [] in
    record {
      all = record {
        own = message_of specifics_fields at until fields;
        sealed = nothing sealed_fields;
        preference = nothing preference_fields;
        password = message_of password_fields begin end [];
        sealed_password = nothing sealed_fields;
        nigori = nothing nigori_fields;
        sealed_keys = nothing sealed_fields;
      };
      are_fields = record {
        own = written_is_read specifics_fields input at until fields small ((omega arith, omega arith), tt) stands;
        sealed = nothing_is_read sealed_fields input;
        preference = nothing_whole input;
        password = written_is_read password_fields input begin end [] small tt inner.0;
        sealed_password = nothing_is_read sealed_fields input;
        nigori = nothing_is_read nigori_fields input;
        sealed_keys = nothing_is_read sealed_fields input;
      };
      no_fault = refl;
      is_said = refl;
    }

-- empty keys
empty_nigori : (input : List ℕ) (at until : ℕ) → length input < 2 ^ 64 → StandsAt input (bytes_field 47745 []) at until →
    IsInside input at until (EmptyOf kinds.Nigori)
empty_nigori input at until small whole =
    let fields : List Written = some_bytes 47745 [] ∷ [] in
    let stands = subst (λ bytes. StandsAt input bytes at until) (joined_are fields) whole in
    let inner = contents_stand input at until fields stands in
    let begin : ℕ = content_begin at 47745 [] in
    let end : ℕ = content_end at 47745 [] in
    record {
      all = record {
        own = message_of specifics_fields at until fields;
        sealed = nothing sealed_fields;
        preference = nothing preference_fields;
        password = nothing password_fields;
        sealed_password = nothing sealed_fields;
        nigori = message_of nigori_fields begin end [];
        sealed_keys = nothing sealed_fields;
      };
      are_fields = record {
        own = written_is_read specifics_fields input at until fields small ((omega arith, omega arith), tt) stands;
        sealed = nothing_is_read sealed_fields input;
        preference = nothing_whole input;
        password = nothing_is_read password_fields input;
        sealed_password = nothing_is_read sealed_fields input;
        nigori = written_is_read nigori_fields input begin end [] small tt inner.0;
        sealed_keys = nothing_is_read sealed_fields input;
      };
      no_fault = refl;
      is_said = refl;
    }

-- the messages in specifics of a preference
abbrev plain_in : ℕ → ℕ → List ℕ → Message → SpecificsFields
plain_in at until content preference = record {
  own = message_of specifics_fields at until (some_bytes 37702 content ∷ []);
  sealed = nothing sealed_fields;
  preference = preference;
  password = nothing password_fields;
  sealed_password = nothing sealed_fields;
  nigori = nothing nigori_fields;
  sealed_keys = nothing sealed_fields;
}

-- nothing is at fault in them
plain_right : (at until : ℕ) (content : List ℕ) (preference : Message) → wire_fault preference ≡ None → is_plain preference ≡ true →
    preference_fault preference ≡ None → None ≡ specifics_fault (plain_in at until content preference)
plain_right at until content preference whole plain right =
    sym (ap (λ b. first_fault (None ∷ (if b then preference_fault preference
    else first_fault (wire_fault preference ∷ wrong_kind preference_fields preference ∷ [])) ∷ wire_fault preference ∷ None ∷ None ∷ None ∷ None ∷ [])) plain
    ∙ ap (λ fault. first_fault (None ∷ fault ∷ wire_fault preference ∷ None ∷ None ∷ None ∷ None ∷ [])) right
    ∙ ap (λ fault. first_fault (None ∷ None ∷ fault ∷ None ∷ None ∷ None ∷ None ∷ [])) whole)

-- they say the preference
plain_said : (input : List ℕ) (at until : ℕ) (content : List ℕ) (preference : Message) → is_plain preference ≡ true →
    Some (Preference (preference_of input preference)) ≡ specifics_of input (plain_in at until content preference)
plain_said input at until content preference plain =
    sym (ap (λ b. Some (if b then Preference (preference_of input preference) else EmptyOf kinds.Preference)) plain)

-- a preference
plain_preference : (input : List ℕ) (preference : APreference) (at until : ℕ) → IsCanonicalExtra preference_fields preference.extra →
    length input < 2 ^ 64 → StandsAt input (bytes_field 37702 (preference_bytes preference)) at until →
    IsInside input at until (Preference preference)
plain_preference input preference at until canonical small whole =
    let kept = canonical_is_kept preference_fields preference.extra canonical in
    let fields : List Written = some_bytes 37702 (preference_bytes preference) ∷ [] in
    let stands = subst (λ bytes. StandsAt input bytes at until) (joined_are fields) whole in
    let inner = contents_stand input at until fields stands in
    let begin : ℕ = content_begin at 37702 (preference_bytes preference) in
    let end : ℕ = content_end at 37702 (preference_bytes preference) in
    let message : Message = preference_message begin end preference kept.fields in
    record {
      all = plain_in at until (preference_bytes preference) message;
      are_fields = record {
        own = written_is_read specifics_fields input at until fields small ((omega arith, omega arith), tt) stands;
        sealed = nothing_is_read sealed_fields input;
        preference = preference_read input preference kept begin end small inner.0;
        password = nothing_is_read password_fields input;
        sealed_password = nothing_is_read sealed_fields input;
        nigori = nothing_is_read nigori_fields input;
        sealed_keys = nothing_is_read sealed_fields input;
      };
      no_fault = plain_right at until (preference_bytes preference) message refl (preference_is_plain preference kept begin end)
          (preference_has_no_fault preference kept begin end);
      is_said = ap (λ said. Some (Preference said)) (preference_is input preference kept begin end inner.0)
          ∙ plain_said input at until (preference_bytes preference) message (preference_is_plain preference kept begin end);
    }

-- a preference that is encrypted
sealed_preference : (input : List ℕ) (sealed : Sealed) (at until : ℕ) → length input < 2 ^ 64 →
    StandsAt input (bytes_field 1 (sealed_bytes sealed) ++ bytes_field 37702 []) at until →
    IsInside input at until (SealedPreference sealed)
sealed_preference input sealed at until small whole =
    let fields : List Written = some_bytes 1 (sealed_bytes sealed) ∷ some_bytes 37702 [] ∷ [] in
    let stands = subst (λ bytes. StandsAt input bytes at until) (joined_are fields) whole in
    let inner = contents_stand input at until fields stands in
    let begin : ℕ = content_begin at 1 (sealed_bytes sealed) in
    let end : ℕ = content_end at 1 (sealed_bytes sealed) in
    let empty : ℕ = content_begin end 37702 [] in
    record {
      all = record {
        own = message_of specifics_fields at until fields;
        sealed = message_of sealed_fields begin end (sealed_texts sealed);
        preference = message_of preference_fields empty (content_end end 37702 []) [];
        password = nothing password_fields;
        sealed_password = nothing sealed_fields;
        nigori = nothing nigori_fields;
        sealed_keys = nothing sealed_fields;
      };
      are_fields = record {
        own = written_is_read specifics_fields input at until fields small
            ((omega arith, omega arith), ((omega arith, omega arith), tt)) stands;
        sealed = sealed_read input sealed begin end small inner.0;
        preference = extra_is_read input empty (content_end end 37702 []) [] [] small tt tt inner.1.0;
        password = nothing_is_read password_fields input;
        sealed_password = nothing_is_read sealed_fields input;
        nigori = nothing_is_read nigori_fields input;
        sealed_keys = nothing_is_read sealed_fields input;
      };
      no_fault = refl;
      is_said = ap (λ said. Some (SealedPreference said)) (sealed_is input sealed begin end inner.0);
    }

-- a login, which is encrypted
sealed_password : (input : List ℕ) (sealed : Sealed) (at until : ℕ) → length input < 2 ^ 64 →
    StandsAt input (bytes_field 45873 (bytes_field 1 (sealed_bytes sealed))) at until →
    IsInside input at until (Password sealed)
sealed_password input sealed at until small whole =
    let content : List ℕ = bytes_field 1 (sealed_bytes sealed) in
    let fields : List Written = some_bytes 45873 content ∷ [] in
    let stands = subst (λ bytes. StandsAt input bytes at until) (joined_are fields) whole in
    let outer = contents_stand input at until fields stands in
    let begin : ℕ = content_begin at 45873 content in
    let end : ℕ = content_end at 45873 content in
    let texts : List Written = some_bytes 1 (sealed_bytes sealed) ∷ [] in
    let held = subst (λ bytes. StandsAt input bytes begin end) (joined_are texts) outer.0 in
    let inner = contents_stand input begin end texts held in
    let first : ℕ = content_begin begin 1 (sealed_bytes sealed) in
    let last : ℕ = content_end begin 1 (sealed_bytes sealed) in
    record {
      all = record {
        own = message_of specifics_fields at until fields;
        sealed = nothing sealed_fields;
        preference = nothing preference_fields;
        password = message_of password_fields begin end texts;
        sealed_password = message_of sealed_fields first last (sealed_texts sealed);
        nigori = nothing nigori_fields;
        sealed_keys = nothing sealed_fields;
      };
      are_fields = record {
        own = written_is_read specifics_fields input at until fields small ((omega arith, omega arith), tt) stands;
        sealed = nothing_is_read sealed_fields input;
        preference = nothing_whole input;
        password = written_is_read password_fields input begin end texts small ((omega arith, omega arith), tt) held;
        sealed_password = sealed_read input sealed first last small inner.0;
        nigori = nothing_is_read nigori_fields input;
        sealed_keys = nothing_is_read sealed_fields input;
      };
      no_fault = refl;
      is_said = ap (λ said. Some (Password said)) (sealed_is input sealed first last inner.0);
    }

-- the messages in encrypted keys
abbrev nigori_in : ℕ → ℕ → Sealed → PassKind → ℕ → ℕ → ℕ → ℕ → List ℕ → SpecificsFields
nigori_in at until bag kind begin end first last content = record {
  own = message_of specifics_fields at until (some_bytes 47745 content ∷ []);
  sealed = nothing sealed_fields;
  preference = nothing preference_fields;
  password = nothing password_fields;
  sealed_password = nothing sealed_fields;
  nigori = message_of nigori_fields begin end (some_bytes 1 (sealed_bytes bag) ∷ a_number 30 (pass_kind_number kind) ∷ []);
  sealed_keys = message_of sealed_fields first last (sealed_texts bag);
}

-- nothing is at fault in them
nigori_right : (at until : ℕ) (bag : Sealed) (kind : PassKind) (begin end first last : ℕ) (content : List ℕ) →
    None ≡ specifics_fault (nigori_in at until bag kind begin end first last content)
nigori_right at until bag Implicit begin end first last content = refl
nigori_right at until bag Keystore begin end first last content = refl
nigori_right at until bag Frozen begin end first last content = refl
nigori_right at until bag Custom begin end first last content = refl
nigori_right at until bag Vault begin end first last content = refl

-- they say the keys
nigori_said : (input : List ℕ) (at until : ℕ) (bag : Sealed) (kind : PassKind) (begin end first last : ℕ) (content : List ℕ) →
    bag ≡ sealed_of input (message_of sealed_fields first last (sealed_texts bag)) →
    Some (Nigori (record { bag = bag; pass_kind = kind })) ≡ specifics_of input (nigori_in at until bag kind begin end first last content)
nigori_said input at until bag Implicit begin end first last content is = ap (λ said. Some (Nigori (record { bag = said; pass_kind = Implicit }))) is
nigori_said input at until bag Keystore begin end first last content is = ap (λ said. Some (Nigori (record { bag = said; pass_kind = Keystore }))) is
nigori_said input at until bag Frozen begin end first last content is = ap (λ said. Some (Nigori (record { bag = said; pass_kind = Frozen }))) is
nigori_said input at until bag Custom begin end first last content is = ap (λ said. Some (Nigori (record { bag = said; pass_kind = Custom }))) is
nigori_said input at until bag Vault begin end first last content is = ap (λ said. Some (Nigori (record { bag = said; pass_kind = Vault }))) is

-- keys, which are encrypted
sealed_nigori : (input : List ℕ) (bag : Sealed) (kind : PassKind) (at until : ℕ) → length input < 2 ^ 64 →
    StandsAt input (bytes_field 47745 (nigori_bytes (record { bag = bag; pass_kind = kind }))) at until →
    IsInside input at until (Nigori (record { bag = bag; pass_kind = kind }))
sealed_nigori input bag kind at until small whole =
    let content : List ℕ = nigori_bytes (record { bag = bag; pass_kind = kind }) in
    let fields : List Written = some_bytes 47745 content ∷ [] in
    let stands = subst (λ bytes. StandsAt input bytes at until) (joined_are fields) whole in
    let outer = contents_stand input at until fields stands in
    let begin : ℕ = content_begin at 47745 content in
    let end : ℕ = content_end at 47745 content in
    let texts : List Written = some_bytes 1 (sealed_bytes bag) ∷ a_number 30 (pass_kind_number kind) ∷ [] in
    let held = subst (λ bytes. StandsAt input bytes begin end) (joined_are texts) outer.0 in
    let inner = contents_stand input begin end texts held in
    let first : ℕ = content_begin begin 1 (sealed_bytes bag) in
    let last : ℕ = content_end begin 1 (sealed_bytes bag) in
    record {
      all = nigori_in at until bag kind begin end first last content;
      are_fields = record {
        own = written_is_read specifics_fields input at until fields small ((omega arith, omega arith), tt) stands;
        sealed = nothing_is_read sealed_fields input;
        preference = nothing_whole input;
        password = nothing_is_read password_fields input;
        sealed_password = nothing_is_read sealed_fields input;
        nigori = written_is_read nigori_fields input begin end texts small
            ((omega arith, omega arith), (((omega arith, omega arith), kind_small kind), tt)) held;
        sealed_keys = sealed_read input bag first last small inner.0;
      };
      no_fault = nigori_right at until bag kind begin end first last content;
      is_said = nigori_said input at until bag kind begin end first last content (sealed_is input bag first last inner.0);
    }

pub specifics_inside : (input : List ℕ) (value : Specifics) (at until : ℕ) → HasCanonicalExtra value → length input < 2 ^ 64 →
    StandsAt input (specifics_bytes value) at until → IsInside input at until value
specifics_inside input (EmptyOf kinds.Preference) at until canonical small stands = empty_preference input at until small stands
specifics_inside input (EmptyOf kinds.Password) at until canonical small stands = empty_password input at until small stands
specifics_inside input (EmptyOf kinds.Nigori) at until canonical small stands = empty_nigori input at until small stands
specifics_inside input (Preference preference) at until canonical small stands = plain_preference input preference at until canonical small stands
specifics_inside input (SealedPreference sealed) at until canonical small stands = sealed_preference input sealed at until small stands
specifics_inside input (Password sealed) at until canonical small stands = sealed_password input sealed at until small stands
specifics_inside input (Nigori nigori) at until canonical small stands = sealed_nigori input nigori.bag nigori.pass_kind at until small stands

-- the bytes of specifics by themselves
pub specifics_are_read : SpecificsAreRead
specifics_are_read value canonical small =
    let input : List ℕ = specifics_bytes value in
    let inside = specifics_inside input value 0 (length input) canonical small (whole_stands input) in
    record {
      all = inside.all;
      are_fields = inside.are_fields;
      is_said = ap Ok inside.is_said ∙ ap (λ fault. said_unless fault (specifics_of input inside.all)) inside.no_fault;
    }
