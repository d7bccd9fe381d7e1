-- A bag that has each key which seals a write opens every batch of writes.
use Rattle.std.proofs.Common.{◌≡◌, ℕ, Bool, true, false, cond, List, [], ◌∷◌, Option, None, Some, unwrap_or, refl, ap, ◌∙◌, subst}
use Rattle.std.specs.List.{list_all, AllByRecursion}
use Rattle.std.proofs.lemmas.Bool.{and_parts, and_from}
use Rattle.std.proofs.lemmas.List.Folds.{list_all-append}
use Rattle.std.proofs.lemmas.Option.{none-some}
use Rattle.client_tags.specs.declared.Kind.{Kind}
use Rattle.key_derivation.specs.declared.NigoriKey.{NigoriKey}
use Rattle.sync_model.specs.declared.message.Content.{Content}
use Rattle.sync_model.specs.declared.message.Entry.{Entry}
use Rattle.sync_model.specs.declared.message.Update.{Update}
use Rattle.sync_model.specs.Values.{same_kind, has_names}
use Rattle.sync_model.specs.Settings.{Setting, names_of}
use Rattle.sync_model.specs.History.{write_at}
use Rattle.sync_model.specs.Servers.{mark_of, wanted_writes, updates_of}
use Rattle.sync_model.specs.Clients.{opens_lock, opens}
use Rattle.sync_model.specs.Receiving.{update_of, updates_in}
use Rattle.sync_model.specs.Laws.{lock_names, locks_of, IsGivenWrite, EveryCurrentClientOpensWrites, EveryCurrentClientOpens}
use Rattle.sync_model.specs.Worlds.{World, client_at, world_of}
use Rattle.sync_model.specs.KeyFacts.{Each}
use Rattle.sync_model.proofs.Histories.{at_top}
use Rattle.sync_model.proofs.GivenWrites.{updates_given}
use Rattle.sync_model.proofs.KeyNames.{has_names-parts}
use Rattle.sync_model.proofs.KeyWorlds.{world_of-EveryCurrentClientHasTheKeys}

-- a bag has the key that seals an entry, if one does
abbrev Opens : Setting → List NigoriKey → Entry Content → Type 0
Opens setting bag entry = opens_lock setting bag entry.content.lock ≡ true

-- a bag that has the name of a lock opens it
opens_named : (setting : Setting) (bag : List NigoriKey) (lock : Option (List ℕ))
    → has_names (names_of setting bag) (lock_names lock) ≡ true → opens_lock setting bag lock ≡ true
opens_named setting bag None has = refl
opens_named setting bag (Some name) has = (and_parts _ _ has).0

-- a bag that has each key which seals a write opens the write of each version
write_opens : (setting : Setting) (bag : List NigoriKey) (history : List (Entry Content)) → has_names (names_of setting bag) (locks_of history) ≡ true
    → (version : ℕ) (write : Entry Content) → write_at history version ≡ Some write → Opens setting bag write
write_opens setting bag [] has version write is = absurd (none-some write is)
write_opens setting bag (newest ∷ older) has version write is =
    let parts = has_names-parts (names_of setting bag) (lock_names newest.content.lock) (locks_of older) has in
    at_top {P = Opens setting bag write} write newest older version is
    (λ at same. subst (λ (found : Entry Content). Opens setting bag found) same (opens_named setting bag newest.content.lock parts.0))
    (λ before. write_opens setting bag older parts.1 version write before)

-- so it opens each entry that is one of the writes
given_open : (setting : Setting) (bag : List NigoriKey) (history : List (Entry Content)) → has_names (names_of setting bag) (locks_of history) ≡ true
    → (entries : List (Entry Content)) → AllByRecursion (IsGivenWrite history) entries → Each (Opens setting bag) entries
given_open setting bag history has [] all = tt
given_open setting bag history has (entry ∷ entries) all = (
  ap (λ (found : Entry Content). opens_lock setting bag found.content.lock) all.0.is_given
      ∙ write_opens setting bag history has entry.version all.0.write all.0.is_write,
  given_open setting bag history has entries all.1,
)

-- the updates of a type among entries that open do
updates_open : (setting : Setting) (bag : List NigoriKey) (kind : Kind) (entries : List (Entry Content)) → Each (Opens setting bag) entries
    → list_all (λ (update : Update). opens_lock setting bag update.lock) (updates_in kind entries) ≡ true
unfolding updates_in
updates_open setting bag kind [] each = refl
updates_open setting bag kind (entry ∷ entries) each =
    list_all-append (λ (update : Update). opens_lock setting bag update.lock)
    (cond (same_kind entry.key.kind kind) (update_of entry ∷ []) []) (updates_in kind entries)
    ∙ and_from _ _ (of_kind setting bag entry (same_kind entry.key.kind kind) each.0) (updates_open setting bag kind entries each.1)
  where
    of_kind : (setting : Setting) (bag : List NigoriKey) (entry : Entry Content) (is : Bool) → Opens setting bag entry
        → list_all (λ (update : Update). opens_lock setting bag update.lock) (cond is (update_of entry ∷ []) []) ≡ true
    of_kind setting bag entry true opens = and_from _ _ opens refl
    of_kind setting bag entry false opens = refl

-- a client that knows the newest write of the profile's keys opens every batch of writes, however old
pub world_of-EveryCurrentClientOpensWrites : EveryCurrentClientOpensWrites
world_of-EveryCurrentClientOpensWrites setting valid schedule client knows kind entries mark all =
    let world : World = world_of setting schedule in
    let bag : List NigoriKey = (client_at world.clients client).bag in
    updates_open setting bag kind entries
    (given_open setting bag world.history (world_of-EveryCurrentClientHasTheKeys setting valid schedule client knows) entries all)

-- so it opens every batch that a delivery may give it
pub world_of-EveryCurrentClientOpens : EveryCurrentClientOpens
world_of-EveryCurrentClientOpens setting valid schedule client knows kind asked marks =
    let history : List (Entry Content) = (world_of setting schedule).history in
    let given = updates_of history marks (wanted_writes marks history history) in
    world_of-EveryCurrentClientOpensWrites setting valid schedule client knows kind given.entries (unwrap_or (mark_of kind given.marks) asked)
    (updates_given marks history)
