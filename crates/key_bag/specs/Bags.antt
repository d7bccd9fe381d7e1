-- The keys of a profile by their names.
use Rattle.std.specs.Prelude.{◌≡◌, ◌≢◌, ℕ, if◌then◌else◌, List, [], ◌∷◌, ◌++◌, Option, Some, None, IfSome, map, All, AllPairs, Contains}
use Rattle.std.specs.Str.{bytes_eq}
use Rattle.aes_cbc.specs.Laws.{IsBlock}
use Rattle.key_derivation.specs.declared.NigoriKey.{NigoriKey}
use Rattle.nigori.specs.Sealing.{key_name}
use Rattle.sync_specifics.specs.Keys.{keys_bytes}
use Rattle.key_bag.specs.declared.named.NamedKey.{NamedKey}

-- the keys of a profile in the order of their adding, and the name of its default key
pub record Bag : Type 0 where
  pub keys : List NamedKey
  pub default : Option (List ℕ)

-- a bag of no keys
abbrev pub empty_bag : Bag
empty_bag = record { keys = []; default = None }

-- a key with its own name
abbrev pub named_by_itself : NigoriKey → NamedKey
named_by_itself key = record { name = key_name key; key = key }

-- the names of a bag's keys, in their order
abbrev pub names_of : Bag → List (List ℕ)
names_of bag = map (λ named. named.name) bag.keys

-- the keys of a bag without their names, in their order
abbrev pub keys_of : Bag → List NigoriKey
keys_of bag = map (λ named. named.key) bag.keys

-- the first key of a name
abbrev pub key_named : List NamedKey → List ℕ → Option NigoriKey
key_named [] name = None
key_named (named ∷ keys) name = if bytes_eq named.name name then Some named.key else key_named keys name

-- a key of this name stands in the bag
abbrev pub HasName : Bag → List ℕ → Type 0
HasName bag name = Contains (names_of bag) name

-- a bag with one more key, at the end and under its own name
abbrev pub with_key : Bag → NigoriKey → Bag
with_key bag key = record bag { keys = bag.keys ++ named_by_itself key ∷ [] }

-- a bag with another default
abbrev pub with_default : Bag → List ℕ → Bag
with_default bag name = record bag { default = Some name }

-- each part of a key is a block of 16 bytes
pub record HasBlocks (key : NigoriKey) : Type 0 where
  pub user : IsBlock key.user
  pub enc : IsBlock key.enc
  pub mac : IsBlock key.mac

-- what holds of each key in a bag: its name is its own, and its parts are blocks
pub record IsNamed (named : NamedKey) : Type 0 where
  pub own_name : named.name ≡ key_name named.key
  pub blocks : HasBlocks named.key

-- what holds of each bag: no two keys have one name, and the default is a name of the bag
pub record IsBag (bag : Bag) : Type 0 where
  pub named : All IsNamed bag.keys
  pub distinct : AllPairs (λ name other. name ≢ other) (names_of bag)
  pub default_stands : IfSome bag.default (HasName bag)

-- the message of a bag: its keys with their names, in their order
abbrev pub packed : Bag → List ℕ
packed bag = keys_bytes (names_of bag) (keys_of bag)
