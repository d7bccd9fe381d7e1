-- Bytes say one thing at most.
use Rattle.std.proofs.Common.{◌≡◌, ℕ, List, [], ◌∷◌, map, sym, ap, subst, ◌∙◌, arith, refl}
use Rattle.message_fields.specs.declared.field.Part.{Part}
use Rattle.message_fields.specs.declared.field.Known.{Known}
use Rattle.message_fields.specs.declared.message.Message.{Message}
use Rattle.message_fields.specs.Fields.{ArePartsOf, whole_of}
use Rattle.message_fields.specs.Lookups.{parts_of}
use Rattle.message_fields.specs.Readings.{IsReading, IsWholeReading, AreReadings}
use Rattle.message_fields.specs.Faults.{said_unless}
use Rattle.message_fields.proofs.LookupLemmas.{parts_within}
use Rattle.message_fields.proofs.MessageLemmas.{reading_within}
use Rattle.message_fields.proofs.OneMessage.{one_message, one_whole_message}
use Rattle.sync_specifics.specs.declared.fields.SpecificsFields.{SpecificsFields}
use Rattle.sync_specifics.specs.SealedTexts.{sealed_fields}
use Rattle.sync_specifics.specs.Preferences.{preference_fault, preference_of, SaysPreference}
use Rattle.sync_specifics.specs.Logins.{login_fault, login_of, SaysLogin}
use Rattle.sync_specifics.specs.Keys.{key_fields, key_fault, key_of, bag_fields, bag_fault, SaysKey, SaysKeys}
use Rattle.sync_specifics.specs.Specifics.{specifics_fields, password_fields, nigori_fields, AreSpecificsFields, specifics_fault, specifics_of, SaysSpecifics}
use Rattle.sync_specifics.specs.Laws.{SayOneThing}

-- all bytes are a part of themselves
pub whole_within : (input : List ℕ) → ArePartsOf input (whole_of input ∷ [])
whole_within input = ((omega arith, omega arith), tt)

-- the message that all bytes are
pub whole_same : (known : List Known) (input : List ℕ) (a b : Message) → IsReading known input (whole_of input ∷ []) a →
    IsReading known input (whole_of input ∷ []) b → a ≡ b
whole_same known input a b one two = one_message known input (whole_of input ∷ []) a b (whole_within input) one two

-- the message that all bytes are, with all its fields
all_fields_same : (input : List ℕ) (a b : Message) → IsWholeReading input (whole_of input ∷ []) a →
    IsWholeReading input (whole_of input ∷ []) b → a ≡ b
all_fields_same input a b one two = one_whole_message input (whole_of input ∷ []) a b (whole_within input) one two

pub one_preference : SayOneThing SaysPreference
one_preference input said other one two =
    one.is_said ∙ ap (λ message. said_unless (preference_fault message) (preference_of input message))
    (all_fields_same input one.message two.message one.is_reading two.is_reading) ∙ sym two.is_said

pub one_login : SayOneThing SaysLogin
one_login input said other one two =
    one.is_said ∙ ap (λ message. said_unless (login_fault message) (login_of input message))
    (all_fields_same input one.message two.message one.is_reading two.is_reading) ∙ sym two.is_said

pub one_key : SayOneThing SaysKey
one_key input said other one two =
    one.is_said ∙ ap (λ message. said_unless (key_fault message) (key_of input message))
    (whole_same key_fields input one.message two.message one.is_reading two.is_reading) ∙ sym two.is_said

-- one message for each part
pub readings_same : (known : List Known) (input : List ℕ) (parts : List Part) (a b : List Message) → ArePartsOf input parts →
    AreReadings known input parts a → AreReadings known input parts b → a ≡ b
readings_same known input [] [] [] are one two = refl
readings_same known input [] [] (y ∷ b) are one two = absurd two
readings_same known input [] (x ∷ a) b are one two = absurd one
readings_same known input (part ∷ parts) [] b are one two = absurd one
readings_same known input (part ∷ parts) (x ∷ a) [] are one two = absurd two
readings_same known input (part ∷ parts) (x ∷ a) (y ∷ b) are one two =
    ap (λ first. first ∷ a) (one_message known input (part ∷ []) x y (are.0, tt) one.0 two.0)
    ∙ ap (λ rest. y ∷ rest) (readings_same known input parts a b are.1 one.1 two.1)

-- the contents of a message stand within the input
pub message_within : (known : List Known) (input : List ℕ) (parts : List Part) (message : Message) (number : ℕ) →
    IsReading known input parts message → ArePartsOf input (parts_of number message.fields)
message_within known input parts message number reading =
    parts_within input number message.fields (reading_within known input parts message reading)

pub one_bag : SayOneThing SaysKeys
one_bag input said other one two =
    let bags = whole_same bag_fields input one.bag two.bag one.is_bag two.is_bag in
    let keys = readings_same key_fields input (parts_of 2 one.bag.fields) one.keys two.keys
    (message_within bag_fields input (whole_of input ∷ []) one.bag 2 one.is_bag) one.are_keys
    (subst (λ (bag : Message). AreReadings key_fields input (parts_of 2 bag.fields) two.keys) (sym bags) two.are_keys) in
    one.is_said ∙ ap (λ bag. said_unless (bag_fault bag one.keys) (map (key_of input) one.keys)) bags
    ∙ ap (λ keys. said_unless (bag_fault two.bag keys) (map (key_of input) keys)) keys ∙ sym two.is_said

-- an inner message
pub inner_same : (outer known : List Known) (input : List ℕ) (parts : List Part) (number : ℕ) (o p a b : Message) → o ≡ p →
    IsReading outer input parts o → IsReading known input (parts_of number o.fields) a →
    IsReading known input (parts_of number p.fields) b → a ≡ b
inner_same outer known input parts number o p a b same reading one two =
    one_message known input (parts_of number o.fields) a b (message_within outer input parts o number reading) one
    (subst (λ (message : Message). IsReading known input (parts_of number message.fields) b) (sym same) two)

-- an inner message with all its fields
pub inner_whole_same : (outer : List Known) (input : List ℕ) (parts : List Part) (number : ℕ) (o p a b : Message) → o ≡ p →
    IsReading outer input parts o → IsWholeReading input (parts_of number o.fields) a →
    IsWholeReading input (parts_of number p.fields) b → a ≡ b
inner_whole_same outer input parts number o p a b same reading one two =
    one_whole_message input (parts_of number o.fields) a b (message_within outer input parts o number reading) one
    (subst (λ (message : Message). IsWholeReading input (parts_of number message.fields) b) (sym same) two)

-- the messages in the pieces of specifics
pub all_same : (input : List ℕ) (parts : List Part) (a b : SpecificsFields) → ArePartsOf input parts → AreSpecificsFields input parts a →
    AreSpecificsFields input parts b → a ≡ b
all_same input parts a b are one two =
    let own = one_message specifics_fields input parts a.own b.own are one.own two.own in
    let sealed = inner_same specifics_fields sealed_fields input parts 1 a.own b.own a.sealed b.sealed own one.own one.sealed two.sealed in
    let preference = inner_whole_same specifics_fields input parts 37702 a.own b.own a.preference b.preference own one.own
    one.preference two.preference in
    let password = inner_same specifics_fields password_fields input parts 45873 a.own b.own a.password b.password own one.own
    one.password two.password in
    let sealed_password = inner_same password_fields sealed_fields input (parts_of 45873 a.own.fields) 1 a.password b.password
    a.sealed_password b.sealed_password password one.password one.sealed_password two.sealed_password in
    let nigori = inner_same specifics_fields nigori_fields input parts 47745 a.own b.own a.nigori b.nigori own one.own
    one.nigori two.nigori in
    let sealed_keys = inner_same nigori_fields sealed_fields input (parts_of 47745 a.own.fields) 1 a.nigori b.nigori
    a.sealed_keys b.sealed_keys nigori one.nigori one.sealed_keys two.sealed_keys in
    ap (λ message. record a { own = message }) own
    ∙ ap (λ message. record a { own = b.own; sealed = message }) sealed
    ∙ ap (λ message. record a { own = b.own; sealed = b.sealed; preference = message }) preference
    ∙ ap (λ message. record a { own = b.own; sealed = b.sealed; preference = b.preference; password = message }) password
    ∙ ap (λ message. record b { sealed_password = message; nigori = a.nigori; sealed_keys = a.sealed_keys }) sealed_password
    ∙ ap (λ message. record b { nigori = message; sealed_keys = a.sealed_keys }) nigori
    ∙ ap (λ message. record b { sealed_keys = message }) sealed_keys

pub one_specifics : SayOneThing SaysSpecifics
one_specifics input said other one two =
    one.is_said ∙ ap (λ all. said_unless (specifics_fault all) (specifics_of input all))
    (all_same input (whole_of input ∷ []) one.all two.all (whole_within input) one.are_fields two.are_fields) ∙ sym two.is_said
