-- What an entity's specifics say under a bag of keys, and why they say nothing under it.
use Rattle.std.specs.Prelude.{◌≡◌, ℕ, List, length, Option, Some, None, Result, Ok, Err}
use Rattle.key_derivation.specs.declared.NigoriKey.{NigoriKey}
use Rattle.message_fields.specs.declared.fault.MessageFault.{MessageFault}
use Rattle.message_fields.specs.declared.fault.MessageReason.TheVariants.{Missing}
use Rattle.sync_values.specs.declared.value.Preference.{Preference as PreferenceData}
use Rattle.sync_values.specs.declared.value.Value.{Value}
use Rattle.sync_values.specs.declared.value.Value.TheVariants as values
use Rattle.sync_specifics.specs.declared.sealed.Sealed.{Sealed}
use Rattle.sync_specifics.specs.declared.specifics.NigoriContent.{NigoriContent}
use Rattle.sync_specifics.specs.declared.specifics.Specifics.{Specifics}
use Rattle.sync_specifics.specs.declared.specifics.Specifics.TheVariants.{EmptyOf, Preference, SealedPreference, Password, Nigori}
use Rattle.sync_specifics.specs.Keys.{SaysKeys}
use Rattle.sync_specifics.specs.Logins.{SaysLogin}
use Rattle.sync_specifics.specs.Specifics.{SaysSpecifics}
use Rattle.key_bag.specs.Bags.{Bag}
use Rattle.key_bag.specs.Texts.{IsLacked, UnsealsTo, HasUnsealFault}
use Rattle.type_worker.specs.declared.blocked.BlockCause.{BlockCause}
use Rattle.type_worker.specs.declared.blocked.BlockCause.TheVariants.{NoKey, Unseal, Content}

-- the sealed text of specifics, if they have one
abbrev pub sealed_in : Specifics → Option Sealed
sealed_in (EmptyOf kind) = None
sealed_in (Preference preference) = None
sealed_in (SealedPreference text) = Some text
sealed_in (Password text) = Some text
sealed_in (Nigori content) = Some content.bag

-- The preference that specifics within a sealed text are. Where they are anything else, a plain preference is missing
-- at the end of the text.
abbrev pub preference_within : ℕ → Result (Option Specifics) MessageFault → Result PreferenceData MessageFault
preference_within end (Err fault) = Err fault
preference_within end (Ok (Some (Preference preference))) = Ok preference
preference_within end (Ok _) = Err (record { at = end; reason = Missing 37702 })

-- what the unsealed text of a preference says: plain specifics of one
pub record SaysPreferenceWithin (text : List ℕ) (said : Result PreferenceData MessageFault) : Type 0 where
  pub specifics : Result (Option Specifics) MessageFault
  pub are_specifics : SaysSpecifics text specifics
  pub is_said : said ≡ preference_within (length text) specifics

-- what was said as a value
abbrev pub said_as : {A : Type 0} → (A → Value) → Result A MessageFault → Result Value MessageFault
said_as value (Ok content) = Ok (value content)
said_as value (Err fault) = Err fault

-- what a text says as a value, by what it says as the content of one
pub record SaysAs {A : Type 0} (Says : List ℕ → Result A MessageFault → Type 0) (value : A → Value) (text : List ℕ)
    (said : Result Value MessageFault) : Type 0 where
  pub content : Result A MessageFault
  pub is_content : Says text content
  pub is_said : said ≡ said_as value content

-- the keys of a profile, under the lock that sealed them
abbrev pub nigori_with : NigoriContent → List NigoriKey → Value
nigori_with content keys =
    values.Nigori (record { lock = content.bag.key_name; keys = keys; pass_kind = content.pass_kind })

-- what the unsealed text of these specifics says
abbrev pub SaysWithin : Specifics → List ℕ → Result Value MessageFault → Type 0
SaysWithin (EmptyOf kind) text said = ⊥
SaysWithin (Preference preference) text said = ⊥
SaysWithin (SealedPreference sealed) text said = SaysAs SaysPreferenceWithin values.Preference text said
SaysWithin (Password sealed) text said = SaysAs SaysLogin values.Password text said
SaysWithin (Nigori content) text said = SaysAs SaysKeys (nigori_with content) text said

-- under a bag, the sealed text of specifics says this value
pub record OpensSealed (bag : Bag) (specifics : Specifics) (sealed : Sealed) (value : Value) : Type 0 where
  pub text : List ℕ
  pub is_text : UnsealsTo bag sealed text
  pub is_value : SaysWithin specifics text (Ok value)

-- under a bag, specifics say this value; those that say a type alone are of a deletion
abbrev pub OpensTo : Bag → Specifics → Value → Type 0
OpensTo bag (EmptyOf kind) value = value ≡ values.Absent
OpensTo bag (Preference preference) value = value ≡ values.Preference preference
OpensTo bag (SealedPreference sealed) value = OpensSealed bag (SealedPreference sealed) sealed value
OpensTo bag (Password sealed) value = OpensSealed bag (Password sealed) sealed value
OpensTo bag (Nigori content) value = OpensSealed bag (Nigori content) content.bag value

-- the sealed text of specifics opens under a bag, and this is at fault in it
pub record HasFaultWithin (bag : Bag) (specifics : Specifics) (sealed : Sealed) (fault : MessageFault) : Type 0 where
  pub text : List ℕ
  pub is_text : UnsealsTo bag sealed text
  pub is_fault : SaysWithin specifics text (Err fault)

-- a sealed text does not open under a bag because of this: the bag lacks its key, the key does not unseal it, or the
-- text is no content of the type
abbrev pub HasCause : Bag → Specifics → Sealed → BlockCause → Type 0
HasCause bag specifics sealed (NoKey name) = IsLacked bag sealed.key_name name
HasCause bag specifics sealed (Unseal fault) = HasUnsealFault bag sealed fault
HasCause bag specifics sealed (Content fault) = HasFaultWithin bag specifics sealed fault

-- specifics do not open under a bag: they hold this sealed text, and this is the cause
abbrev pub IsShut : Bag → Specifics → Sealed → BlockCause → Type 0
IsShut bag specifics sealed cause = (sealed_in specifics ≡ Some sealed) × HasCause bag specifics sealed cause
