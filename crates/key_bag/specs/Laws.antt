-- What holds of all bags, by the definitions alone.
use Rattle.std.specs.Prelude.{◌≡◌, ℕ, List, Result, Ok}
use Rattle.aes_cbc.specs.Laws.{AreBytes, IsBlock}
use Rattle.key_derivation.specs.declared.NigoriKey.{NigoriKey}
use Rattle.message_fields.specs.declared.fault.MessageFault.{MessageFault}
use Rattle.sync_specifics.specs.declared.sealed.Sealed.{Sealed}
use Rattle.sync_specifics.specs.Keys.{SaysKeys}
use Rattle.sync_specifics.specs.Laws.{FitMemory}
use Rattle.key_bag.specs.Bags.{Bag, IsBag, keys_of, key_named, packed}
use Rattle.key_bag.specs.Texts.{IsSealedBy, UnsealsTo}

-- bytes say these keys, and nothing else
pub record SaysKeysAlone (bytes : List ℕ) (keys : List NigoriKey) : Type 0 where
  pub is_said : SaysKeys bytes (Ok keys)
  pub is_only : (said : Result (List NigoriKey) MessageFault) → SaysKeys bytes said → said ≡ Ok keys

-- the message of a bag says the keys of the bag in their order, and nothing else
abbrev pub PackedKeysAreUnpacked : Type 0
PackedKeysAreUnpacked = (bag : Bag) → IsBag bag → FitMemory (packed bag) → SaysKeysAlone (packed bag) (keys_of bag)

-- a bag unseals a sealed text to this text, and to no other
pub record UnsealsToAlone (bag : Bag) (text : Sealed) (plain : List ℕ) : Type 0 where
  pub is_text : UnsealsTo bag text plain
  pub is_only : (other : List ℕ) → UnsealsTo bag text other → other ≡ plain

-- what a bag seals under a name, each bag with that key under that name unseals to the text, and to no other
abbrev pub SealedTextsAreUnsealed : Type 0
SealedTextsAreUnsealed =
    (bag other : Bag) (name plain iv : List ℕ) (text : Sealed) → IsBag bag → AreBytes plain → IsBlock iv
    → IsSealedBy bag name plain iv text → key_named other.keys name ≡ key_named bag.keys name
    → UnsealsToAlone other text plain
