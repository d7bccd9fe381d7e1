-- Each extra that bytes say is canonical.
use Rattle.std.proofs.Common.{◌≡◌, ℕ, Bool, true, false, if◌then◌else◌, List, [], ◌∷◌, Option, Some, None, Ok, refl, sym, subst}
use Rattle.client_tags.specs.declared.Kind.{Kind}
use Rattle.client_tags.specs.declared.Kind.TheVariants as kinds
use Rattle.message_fields.specs.declared.fault.MessageFault.{MessageFault}
use Rattle.message_fields.specs.declared.field.Part.{Part}
use Rattle.message_fields.specs.declared.message.Message.{Message}
use Rattle.message_fields.specs.Fields.{whole_of}
use Rattle.message_fields.specs.Lookups.{has, number_or, parts_of}
use Rattle.message_fields.specs.Unknown.{extra_of, IsCanonicalExtra}
use Rattle.message_fields.specs.Faults.{wire_fault, wrong_kind, missing, said_unless}
use Rattle.message_fields.proofs.ExtraFields.{extras_are_canonical}
use Rattle.message_fields.proofs.FirstFaults.{none_told, no_wire_fault}
use Rattle.sync_values.specs.declared.value.Preference.{Preference as APreference}
use Rattle.sync_values.specs.declared.value.Password.{Password as APassword}
use Rattle.sync_values.specs.PassKinds.{pass_kind_of_number}
use Rattle.sync_specifics.specs.declared.specifics.Specifics.{Specifics}
use Rattle.sync_specifics.specs.declared.specifics.Specifics.TheVariants.{EmptyOf, Preference, SealedPreference, Password, Nigori}
use Rattle.sync_specifics.specs.declared.fields.SpecificsFields.{SpecificsFields}
use Rattle.sync_specifics.specs.SealedTexts.{sealed_of}
use Rattle.sync_specifics.specs.Preferences.{preference_fields, preference_fault, preference_of}
use Rattle.sync_specifics.specs.Logins.{login_fields, login_fault, login_of}
use Rattle.sync_specifics.specs.Specifics.{AreSpecificsFields, specifics_fields, type_of, is_plain, pass_kind_or_implicit, sealed_fault_in, type_fault, specifics_fault, specifics_of_type, specifics_of}
use Rattle.sync_specifics.specs.Extras.{HasCanonicalExtra, HasCanonicalExtraIfSome}
use Rattle.sync_specifics.specs.Laws.{SaidPreferencesAreCanonical, SaidLoginsAreCanonical, SaidSpecificsAreCanonical}
use Rattle.sync_specifics.proofs.OneThing.{whole_within, message_within}

-- what is said where nothing is at fault
pub said : {A : Type 0} → (fault : Option MessageFault) (value told : A) → Ok told ≡ said_unless fault value → (fault ≡ None) × (told ≡ value)
said None value told is = (refl, cc)
said (Some fault) value told is = absurd cc

pub said_preferences : SaidPreferencesAreCanonical
said_preferences bytes preference says =
    let message : Message = says.message in
    let is = said (preference_fault message) (preference_of bytes message) preference says.is_said in
    let none = none_told (wire_fault message ∷ wrong_kind preference_fields message ∷ missing 1 message ∷ missing 2 message ∷ []) is.0 in
    subst (λ (said : APreference). IsCanonicalExtra preference_fields said.extra) (sym is.1)
    (extras_are_canonical preference_fields bytes (whole_of bytes ∷ []) message (whole_within bytes) says.is_reading (no_wire_fault message none.0))

pub said_logins : SaidLoginsAreCanonical
said_logins bytes login says =
    let message : Message = says.message in
    let is = said (login_fault message) (login_of bytes message) login says.is_said in
    let none = none_told
    (wire_fault message ∷ wrong_kind login_fields message ∷ missing 2 message ∷ missing 3 message ∷ missing 5 message ∷ missing 6 message
    ∷ missing 7 message ∷ missing 8 message ∷ []) is.0 in
    subst (λ (said : APassword). IsCanonicalExtra login_fields said.extra) (sym is.1)
    (extras_are_canonical login_fields bytes (whole_of bytes ∷ []) message (whole_within bytes) says.is_reading (no_wire_fault message none.0))

either_canonical : (b : Bool) (value other : Specifics) → HasCanonicalExtra value → HasCanonicalExtra other →
    HasCanonicalExtra (if b then value else other)
either_canonical true value other one two = one
either_canonical false value other one two = two

type_canonical : (input : List ℕ) (all : SpecificsFields) (kind : Option Kind) →
    IsCanonicalExtra preference_fields (extra_of preference_fields input all.preference.fields) →
    HasCanonicalExtraIfSome (specifics_of_type input all kind)
type_canonical input all None canonical = tt
type_canonical input all (Some kinds.Nigori) canonical =
    either_canonical (has 1 all.nigori.fields) (Nigori (record {
      bag = sealed_of input all.sealed_keys;
      pass_kind = pass_kind_or_implicit (pass_kind_of_number (number_or 1 30 all.nigori.fields));
    })) (EmptyOf kinds.Nigori) tt tt
type_canonical input all (Some kinds.Preference) canonical =
    either_canonical (has 1 all.own.fields) (SealedPreference (sealed_of input all.sealed))
    (if is_plain all.preference then Preference (preference_of input all.preference) else EmptyOf kinds.Preference) tt
    (either_canonical (is_plain all.preference) (Preference (preference_of input all.preference)) (EmptyOf kinds.Preference) canonical tt)
type_canonical input all (Some kinds.Password) canonical =
    either_canonical (has 1 all.password.fields) (Password (sealed_of input all.sealed_password)) (EmptyOf kinds.Password) tt tt

-- what the pieces of specifics say in which nothing is at fault
pub pieces_canonical : (input : List ℕ) (parts : List Part) (all : SpecificsFields) → AreSpecificsFields input parts all →
    specifics_fault all ≡ None → HasCanonicalExtraIfSome (specifics_of input all)
pieces_canonical input parts all are right =
    let none = none_told
    (sealed_fault_in all.own all.sealed ∷ type_fault all (type_of all.own.fields) ∷ wire_fault all.preference ∷ wire_fault all.password
    ∷ wire_fault all.nigori ∷ wire_fault all.own ∷ wrong_kind specifics_fields all.own ∷ []) right in
    type_canonical input all (type_of all.own.fields)
    (extras_are_canonical preference_fields input (parts_of 37702 all.own.fields) all.preference
    (message_within specifics_fields input parts all.own 37702 are.own) are.preference
    (no_wire_fault all.preference none.1.1.0))

pub said_specifics : SaidSpecificsAreCanonical
said_specifics bytes value says =
    let is = said (specifics_fault says.all) (specifics_of bytes says.all) (Some value) says.is_said in
    subst HasCanonicalExtraIfSome (sym is.1)
    (pieces_canonical bytes (whole_of bytes ∷ []) says.all says.are_fields is.0)
