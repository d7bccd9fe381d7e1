-- A server that is told canonical extras alone holds such extras alone, and tells such extras alone.
use Rattle.std.proofs.Common.{◌≡◌, ℕ, zero, suc, ◌≤◌, arith, Bool, true, false, List, [], ◌∷◌, length, take, drop, map, Option, Some, None, Result, Ok, Err, refl, sym, ap, subst}
use Rattle.std.specs.List.{AllByRecursion}
use Rattle.std.specs.Prelude.{if◌then◌else◌, OnOk, OnErr}
use Rattle.client_tags.specs.declared.hash.TagHash.{TagHash}
use Rattle.sync_specifics.specs.declared.specifics.Specifics.{Specifics}
use Rattle.sync_specifics.specs.Extras.{HasCanonicalExtra, HasCanonicalExtraIfSome}
use Rattle.sync_messages.specs.declared.message.Entity.{Entity}
use Rattle.sync_messages.specs.declared.message.Request.{Request}
use Rattle.sync_messages.specs.declared.message.Request.TheVariants as requests
use Rattle.sync_messages.specs.Laws.{FitsTypes, HaveCanonicalExtras, HasCanonicalRequest, IsEntity}
use Rattle.sync_model.specs.declared.message.Entry.{Entry}
use Rattle.sync_model.specs.declared.message.Marker.{Marker}
use Rattle.sync_model.specs.Servers.{wanted_writes, history_after, MAX_UPDATES}
use Rattle.replay_messages.specs.Entries.{no_entry, entry_with, entry_by, entry_in, may_not_be_stored, stored, is_invalid}
use Rattle.loopback_server.specs.Extras.{HoldsCanonicalExtra, HoldCanonicalExtras}
use Rattle.replay_messages.specs.Replies.{told_entity, call_in}
use Rattle.sync_model.proofs.WantedWrites.{all_take}
use Rattle.sync_model.proofs.EachEntry.{all_mapped, HoldsOfCall, after_holds, wanted_holds}

stored_canonical : (deleted : Bool) (specifics : Specifics) → HasCanonicalExtra specifics → HasCanonicalExtra (stored deleted specifics)
stored_canonical true specifics canonical = tt
stored_canonical false specifics canonical = canonical

unless_refused : (refused : Bool) (entry : Entry (Option Specifics)) → HoldsCanonicalExtra entry → HoldsCanonicalExtra (if refused then no_entry else entry)
unless_refused true entry canonical = tt
unless_refused false entry canonical = canonical

read_canonical : (entity : Entity) (specifics : Option Specifics) (hash : Option TagHash) → HasCanonicalExtraIfSome specifics → HoldsCanonicalExtra (entry_by entity specifics hash)
read_canonical entity None hash canonical = tt
read_canonical entity (Some specifics) None canonical = tt
read_canonical entity (Some specifics) (Some hash) canonical =
    unless_refused (may_not_be_stored entity.deleted specifics) (entry_with entity specifics hash)
    (stored_canonical entity.deleted specifics canonical)

entry_canonical : (entity : Entity) → HasCanonicalExtraIfSome entity.specifics → HoldsCanonicalExtra (entry_in entity)
unfolding entry_in
entry_canonical entity canonical = read_canonical entity entity.specifics entity.hash canonical

call_canonical : (request : Request) → HasCanonicalRequest request → HoldsOfCall HoldsCanonicalExtra (call_in request)
call_canonical (requests.Commit commit) canonical =
    all_mapped (λ (entity : Entity). HasCanonicalExtraIfSome entity.specifics) HoldsCanonicalExtra entry_in entry_canonical commit.entries canonical
call_canonical (requests.Updates updates) canonical = tt

-- the writes after a request
pub after_canonical : (request : Request) (history new : List (Entry (Option Specifics))) → HoldCanonicalExtras history → HasCanonicalRequest request
    → new ≡ history_after is_invalid history (call_in request) → HoldCanonicalExtras new
after_canonical request history new held canonical is =
    subst HoldCanonicalExtras (sym is) (after_holds HoldsCanonicalExtra is_invalid history (call_in request) held (call_canonical request canonical))

-- the writes after a request that was answered or not
pub either_canonical : {A E : Type 0} (result : Result A E) (request : Request) (history new : List (Entry (Option Specifics))) → HoldCanonicalExtras history → HasCanonicalRequest request
    → OnOk result (new ≡ history_after is_invalid history (call_in request)) → OnErr result (new ≡ history) → HoldCanonicalExtras new
either_canonical (Ok value) request history new held canonical ok err = after_canonical request history new held canonical ok
either_canonical (Err fault) request history new held canonical ok err = subst HoldCanonicalExtras (sym err) held

-- the writes without the last ones
pub dropped_canonical : (count : ℕ) (history : List (Entry (Option Specifics))) → HoldCanonicalExtras history → HoldCanonicalExtras (drop count history)
dropped_canonical count history held = all_of_last HoldsCanonicalExtra count history held
  where
    all_of_last : {X : Type 0} (P : X → Type 0) (count : ℕ) (xs : List X) → AllByRecursion P xs → AllByRecursion P (drop count xs)
    all_of_last P zero xs all = all
    all_of_last P (suc count) [] all = tt
    all_of_last P (suc count) (x ∷ xs) all = all_of_last P count xs all.1

all_entities : (entities : List Entity) → AllByRecursion FitsTypes entities → HaveCanonicalExtras entities → AllByRecursion IsEntity entities
all_entities [] fit canonical = tt
all_entities (entity ∷ entities) fit canonical =
    (record { fits = fit.0; extra = canonical.0 }, all_entities entities fit.1 canonical.1)

-- the entities that a get-updates is told can be said
pub told_canonical : (marks : List Marker) (history : List (Entry (Option Specifics))) (entities : List Entity) → HoldCanonicalExtras history
    → entities ≡ map told_entity (take MAX_UPDATES (wanted_writes marks history history)) → AllByRecursion FitsTypes entities → AllByRecursion IsEntity entities
told_canonical marks history entities held is fit =
    all_entities entities fit
    (subst HaveCanonicalExtras (sym is)
    (all_mapped HoldsCanonicalExtra (λ (entity : Entity). HasCanonicalExtraIfSome entity.specifics) told_entity (λ entry canonical. canonical)
    (take MAX_UPDATES (wanted_writes marks history history))
    (all_take HoldsCanonicalExtra MAX_UPDATES (wanted_writes marks history history)
    (wanted_holds HoldsCanonicalExtra HoldsCanonicalExtra (length history) (λ version write within canonical. canonical) marks history history held (omega arith)))))
