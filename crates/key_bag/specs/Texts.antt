-- Texts that are sealed and unsealed with the keys of a bag.
use Rattle.std.specs.Prelude.{◌≡◌, ◌≢◌, ◌↔◌, ℕ, List, Some, Result, Ok, Err}
use Rattle.key_derivation.specs.declared.NigoriKey.{NigoriKey}
use Rattle.nigori.specs.Sealing.{sealed}
use Rattle.nigori.specs.Unsealing.{Decodes, IsNoBase64, HasBadLength, HasBadTag, HasBadPadding, HoldsText}
use Rattle.nigori.specs.declared.fault.UnsealFault.{UnsealFault}
use Rattle.nigori.specs.declared.fault.UnsealFault.TheVariants.{NotBase64, BadLength, BadTag, BadPadding, NoMemory as UnsealNoMemory}
use Rattle.sync_specifics.specs.declared.sealed.Sealed.{Sealed}
use Rattle.key_bag.specs.declared.fault.AnyFault.{AnyFault}
use Rattle.key_bag.specs.declared.fault.AnyFault.TheVariants.{NoKey, Unseal, NoMemory}
use Rattle.key_bag.specs.Bags.{Bag, key_named, HasName}

-- the bag has a key of this name, and this holds of it
abbrev pub OfKey : Bag → List ℕ → (NigoriKey → Type 0) → Type 0
OfKey bag name Holds = (key : NigoriKey) × (key_named bag.keys name ≡ Some key) × Holds key

-- this is the name that is asked for, and the bag lacks it
abbrev pub IsLacked : Bag → List ℕ → List ℕ → Type 0
IsLacked bag asked name = (name ≡ asked) × ¬ HasName bag asked

-- a text sealed under a key, with this name of it
abbrev pub sealed_under : List ℕ → NigoriKey → List ℕ → List ℕ → Sealed
sealed_under name key plain iv = record { key_name = name; blob = sealed key plain iv }

-- this is the text, sealed under the bag's key of a name
abbrev pub IsSealedBy : Bag → List ℕ → List ℕ → List ℕ → Sealed → Type 0
IsSealedBy bag name plain iv text = OfKey bag name (λ key. text ≡ sealed_under name key plain iv)

-- this is the text, sealed under the default key of the bag
abbrev pub IsSealedByDefault : Bag → List ℕ → List ℕ → Sealed → Type 0
IsSealedByDefault bag plain iv text = (name : List ℕ) × (bag.default ≡ Some name) × IsSealedBy bag name plain iv text

-- under the bag's key of its name, a sealed text holds this text
abbrev pub UnsealsTo : Bag → Sealed → List ℕ → Type 0
UnsealsTo bag text plain = OfKey bag text.key_name (λ key. Decodes text.blob (HoldsText key plain))

-- what is at fault in a blob that is unsealed under a key; want of memory is no fault of a blob
abbrev pub IsUnsealFault : NigoriKey → List ℕ → UnsealFault → Type 0
IsUnsealFault key blob NotBase64 = IsNoBase64 blob
IsUnsealFault key blob (BadLength len) = Decodes blob (HasBadLength len)
IsUnsealFault key blob (BadTag found computed) = Decodes blob (HasBadTag key found computed)
IsUnsealFault key blob BadPadding = Decodes blob (HasBadPadding key)
IsUnsealFault key blob UnsealNoMemory = ⊥

-- under the bag's key of its name, this is at fault in a sealed text
abbrev pub HasUnsealFault : Bag → Sealed → UnsealFault → Type 0
HasUnsealFault bag text fault = OfKey bag text.key_name (λ key. IsUnsealFault key text.blob fault)

-- this error of want of memory apart, the result is this answer exactly where that holds
abbrev pub AnswersExactly : {A E : Type 0} → E → Result A E → Result A E → Type 0 → Type 0
AnswersExactly memory result answer Holds = result ≢ Err memory → (result ≡ answer) ↔ Holds

-- what unsealing answers, where want of memory is told as a fault of its own
abbrev pub any_answer : Result (List ℕ) UnsealFault → Result (List ℕ) AnyFault
any_answer (Ok plain) = Ok plain
any_answer (Err UnsealNoMemory) = Err NoMemory
any_answer (Err fault) = Err (Unseal fault)

-- want of memory apart, the result is the text that a blob holds under a key, or what is at fault in it
pub record IsUnsealed (key : NigoriKey) (blob : List ℕ) (result : Result (List ℕ) AnyFault) : Type 0 where
  pub text : (plain : List ℕ) → AnswersExactly NoMemory result (Ok plain) (Decodes blob (HoldsText key plain))
  pub fault : (fault : UnsealFault) → AnswersExactly NoMemory result (Err (Unseal fault)) (IsUnsealFault key blob fault)
  pub never_lacks : (name : List ℕ) → result ≢ Err (NoKey name)
