-- What a store is without its last write.
use Rattle.std.proofs.Common.{◌≡◌, ℕ, ◌+◌, ◌-◌, ◌<◌, Bool, true, false, cond, List, ◌∷◌, length, Option, Some, None, refl, sym, ap, subst, ◌∙◌, arith}
use Rattle.std.specs.Prelude.{◌==◌, if◌then◌else◌, unwrap_or, is_some}
use Rattle.sync_specifics.specs.declared.specifics.Specifics.{Specifics}
use Rattle.sync_model.proofs.Writes.{same_key-true, same_key-refl}
use Rattle.sync_model.specs.declared.message.Entry.{Entry}
use Rattle.sync_model.specs.History.{last_version, key_count, IsBased}
use Rattle.loopback_server.specs.declared.write.EntityKey.{EntityKey}
use Rattle.loopback_server.specs.declared.write.Write.{Write}
use Rattle.loopback_server.specs.Indexes.{key_of, is_key, indexed, HasPlace, HasVersions}
use Rattle.loopback_server.specs.Stores.{entry_of}

-- the version of the newest write is the last one of its key
newest_is_last : (older : List (Entry (Option Specifics))) (write : Write) → last_version (entry_of write ∷ older) (key_of write.key) ≡ length older + 1
newest_is_last older write =
    ap (λ (same : Bool). cond same (length older + 1) (last_version older (key_of write.key))) (same_key-refl (key_of write.key))

is_there : (found : Option ℕ) → 0 < unwrap_or found 0 → is_some found ≡ true
is_there None above = absurd (omega (arith, above))
is_there (Some version) above = refl

-- the key of the newest write has its place
pub newest_place : (index : List (EntityKey × ℕ)) (history older : List (Entry (Option Specifics))) (write : Write) → HasVersions index history
    → history ≡ entry_of write ∷ older → HasPlace index write.key
newest_place index history older write has is =
    is_there (indexed index write.key)
    (omega (arith, has write.key ∙ ap (λ (all : List (Entry (Option Specifics))). last_version all (key_of write.key)) is ∙ newest_is_last older write))

-- a version that the key of a write had before it
before_by : (older : List (Entry (Option Specifics))) (write : Write) (key : EntityKey) (found : Option ℕ) (same : Bool) → is_key write.key key ≡ same
    → write.base ≡ last_version older (key_of write.key) → unwrap_or found 0 ≡ cond same (length older + 1) (last_version older (key_of key))
    → unwrap_or (cond same (Some write.base) found) 0 ≡ last_version older (key_of key)
before_by older write key found true same based has = based ∙ ap (last_version older) (same_key-true (key_of write.key) (key_of key) same)
before_by older write key found false same based has = has

-- an index in which the key of the newest write was set back has the versions without that write
pub taken_versions : (old new : List (EntityKey × ℕ)) (history older : List (Entry (Option Specifics))) (write : Write) → HasVersions old history
    → history ≡ entry_of write ∷ older → IsBased history
    → ((key : EntityKey) → indexed new key ≡ cond (is_key write.key key) (Some write.base) (indexed old key))
    → HasVersions new older
taken_versions old new history older write has is based set key =
    let before : IsBased (entry_of write ∷ older) = subst (λ (all : List (Entry (Option Specifics))). IsBased all) is based in
    ap (λ found. unwrap_or found 0) (set key)
    ∙ before_by older write key (indexed old key) (is_key write.key key) refl before.0
    (has key ∙ ap (λ (all : List (Entry (Option Specifics))). last_version all (key_of key)) is)

keys_by : (count keys : ℕ) (new : Bool) → keys ≡ cond new (count + 1) count → cond new (keys - 1) keys ≡ count
keys_by count keys true is = omega (arith, is)
keys_by count keys false is = is

-- the count of the keys that the newest write counts in
count_is : (history older : List (Entry (Option Specifics))) (write : Write) → history ≡ entry_of write ∷ older → IsBased history
    → key_count history ≡ cond (write.base == 0) (key_count older + 1) (key_count older)
count_is history older write is based =
    let before : IsBased (entry_of write ∷ older) = subst (λ (all : List (Entry (Option Specifics))). IsBased all) is based in
    ap (λ (all : List (Entry (Option Specifics))). key_count all) is
    ∙ ap (λ (last : ℕ). cond (last == 0) (key_count older + 1) (key_count older)) (sym before.0)

-- the count of the keys without the newest write
pub taken_keys : (history older : List (Entry (Option Specifics))) (write : Write) (keys : ℕ) → history ≡ entry_of write ∷ older → IsBased history
    → keys ≡ key_count history → (if write.base == 0 then keys - 1 else keys) ≡ key_count older
taken_keys history older write keys is based is_keys =
    keys_by (key_count older) keys (write.base == 0) (is_keys ∙ count_is history older write is based)
