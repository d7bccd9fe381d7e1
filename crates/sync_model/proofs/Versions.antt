-- Every write of every run is based on the last write of its key before it.
use Rattle.std.proofs.Common.{◌≡◌, ℕ, zero, suc, ◌+◌, Bool, true, false, cond, List, [], ◌∷◌, length, Option, Some, None, refl, sym, subst, eqb}
use Rattle.std.proofs.lemmas.Bool.{eqb-true}
use Rattle.sync_model.specs.declared.event.Event.{Event}
use Rattle.sync_model.specs.declared.event.Event.TheVariants.{Edit, Cut, Turn, Gather, Post, Ask, Offer, Lose, Crash, Deliver, Answer, SetPass, GivePass}
use Rattle.sync_model.specs.declared.event.EventOutcome.{EventOutcome}
use Rattle.sync_model.specs.declared.event.EventOutcome.TheVariants.{Void, Done, Edited, Requested, Delivered}
use Rattle.sync_model.specs.declared.message.Answer.TheVariants.{Success, Conflict, Invalid, OverQuota}
use Rattle.sync_model.specs.declared.message.Call.{Call}
use Rattle.sync_model.specs.declared.message.Call.TheVariants.{Commit, Updates}
use Rattle.sync_model.specs.declared.message.Content.{Content}
use Rattle.sync_model.specs.declared.message.Entry.{Entry}
use Rattle.sync_model.specs.declared.message.Reply.{Reply}
use Rattle.sync_model.specs.declared.message.Request.{Request}
use Rattle.sync_model.specs.Settings.{Setting}
use Rattle.sync_model.specs.History.{last_version, is_over_quota, answer_to, history_with, committed, IsBased}
use Rattle.sync_model.specs.Servers.{is_foreign, history_after, history_served}
use Rattle.sync_model.specs.Clients.{Client, Effect}
use Rattle.sync_model.specs.Receiving.{answer_effect}
use Rattle.sync_model.specs.Laws.{EveryEventKeepsBased, EveryWriteIsBased}
use Rattle.sync_model.specs.Worlds.{World, opening, client_at, outcome_at, affected, acted, STORE_BIRTHDAY, is_invalid_entry, delivered, is_awaited, replied, answered, stepped, run}

-- an entry is stored only where its version is that of its key's last write
by_tests : {C : Type 0} (history : List (Entry C)) (entry : Entry C) (invalid matches over : Bool) (version : ℕ)
    → eqb entry.version (last_version history entry.key) ≡ matches → IsBased history
    → IsBased (history_with history entry (cond invalid Invalid (cond matches (cond over OverQuota (Success version)) Conflict)))
by_tests history entry true matches over version is based = based
by_tests history entry false true true version is based = based
by_tests history entry false true false version is based = (eqb-true _ _ is, based)
by_tests history entry false false over version is based = based

-- one entry keeps the law
history_with-IsBased : {C : Type 0} (is_invalid : Entry C → Bool) (history : List (Entry C)) (entry : Entry C) → IsBased history
    → IsBased (history_with history entry (answer_to is_invalid history entry))
unfolding answer_to
history_with-IsBased is_invalid history entry based =
    by_tests history entry (is_invalid entry) (eqb entry.version (last_version history entry.key)) (is_over_quota history entry) (length history + 1) refl based

-- a commit keeps the law
pub committed-IsBased : {C : Type 0} (is_invalid : Entry C → Bool) (history : List (Entry C)) (entries : List (Entry C)) → IsBased history
    → IsBased (committed is_invalid history entries)
unfolding committed
committed-IsBased is_invalid history [] based = based
committed-IsBased is_invalid history (entry ∷ entries) based =
    committed-IsBased is_invalid (history_with history entry (answer_to is_invalid history entry)) entries (history_with-IsBased is_invalid history entry based)

-- a request that the server accepts keeps the law
history_after-IsBased : {C : Type 0} (is_invalid : Entry C → Bool) (history : List (Entry C)) (call : Call C) → IsBased history
    → IsBased (history_after is_invalid history call)
history_after-IsBased is_invalid history (Commit entries) based = committed-IsBased is_invalid history entries based
history_after-IsBased is_invalid history (Updates marks) based = based

-- a request keeps the law, whatever its birthday
by_birthday : {C : Type 0} (is_invalid : Entry C → Bool) (history : List (Entry C)) (call : Call C) (foreign : Bool) → IsBased history
    → IsBased (cond foreign history (history_after is_invalid history call))
by_birthday is_invalid history call true based = based
by_birthday is_invalid history call false based = history_after-IsBased is_invalid history call based

pub history_served-IsBased : {C : Type 0} (is_invalid : Entry C → Bool) (birthday : List ℕ) (history : List (Entry C)) (request : Request C)
    → IsBased history → IsBased (history_served is_invalid birthday history request)
unfolding history_served
history_served-IsBased is_invalid birthday history request based =
    by_birthday is_invalid history request.call (is_foreign birthday request.birthday) based

-- an event of a client leaves the history
affected-history : (world : World) (client : ℕ) (effect : Option Effect) → (affected world client effect).history ≡ world.history
unfolding affected
affected-history world client None = refl
affected-history world client (Some effect) = refl

acted-history : (world : World) (client : ℕ) (event : Client → Option Effect) → (acted world client event).history ≡ world.history
acted-history world zero event = refl
acted-history world (suc place) event = affected-history world (suc place) (event (client_at world.clients (suc place)))

-- a delivery keeps the law
delivered-IsBased : (world : World) (event : ℕ) (outcome : EventOutcome) → IsBased world.history → IsBased (delivered world event outcome).history
delivered-IsBased world event (Requested client request) based = history_served-IsBased is_invalid_entry STORE_BIRTHDAY world.history request based
delivered-IsBased world event Void based = based
delivered-IsBased world event Done based = based
delivered-IsBased world event (Edited client kind number) based = based
delivered-IsBased world event (Delivered request reply) based = based

-- a reply leaves the history
by_awaited : (world : World) (client : ℕ) (effect : Option Effect) (awaited : Bool) → (cond awaited (affected world client effect) (record world { outcomes = Void ∷ world.outcomes })).history ≡ world.history
by_awaited world client effect true = affected-history world client effect
by_awaited world client effect false = refl

replied-history : (world : World) (event : ℕ) (reply : Reply Content) (outcome : EventOutcome) → (replied world event reply outcome).history ≡ world.history
replied-history world event reply (Requested client request) =
    by_awaited world client (answer_effect request reply (client_at world.clients client)) (is_awaited (client_at world.clients client).outstanding event)
replied-history world event reply Void = refl
replied-history world event reply Done = refl
replied-history world event reply (Edited client kind number) = refl
replied-history world event reply (Delivered other others) = refl

answered-history : (world : World) (outcome : EventOutcome) → (answered world outcome).history ≡ world.history
answered-history world (Delivered request reply) = replied-history world request reply (outcome_at world.outcomes request)
answered-history world Void = refl
answered-history world Done = refl
answered-history world (Edited client kind number) = refl
answered-history world (Requested client request) = refl

-- the same history
same : {old new : List (Entry Content)} → new ≡ old → IsBased old → IsBased new
same e based = subst (λ (history : List (Entry Content)). IsBased history) (sym e) based

pub stepped-IsBased : EveryEventKeepsBased
unfolding stepped
stepped-IsBased setting (Edit client edit) world based = same (acted-history world client _) based
stepped-IsBased setting (Cut client kept edit) world based = same (acted-history world client _) based
stepped-IsBased setting (Turn client kind) world based = same (acted-history world client _) based
stepped-IsBased setting (Gather client kind) world based = same (acted-history world client _) based
stepped-IsBased setting (Post client kind) world based = same (acted-history world client _) based
stepped-IsBased setting (Ask client) world based = same (acted-history world client _) based
stepped-IsBased setting (Offer client) world based = same (acted-history world client _) based
stepped-IsBased setting (Lose client) world based = same (acted-history world client _) based
stepped-IsBased setting (Crash client) world based = same (acted-history world client _) based
stepped-IsBased setting (Deliver event) world based = delivered-IsBased world event (outcome_at world.outcomes event) based
stepped-IsBased setting (Answer event) world based = same (answered-history world (outcome_at world.outcomes event)) based
stepped-IsBased setting (SetPass client pass) world based = same (acted-history world client _) based
stepped-IsBased setting (GivePass client pass) world based = same (acted-history world client _) based

-- each event of a run keeps the law
run-IsBased : (setting : Setting) (world : World) (events : List Event) → IsBased world.history → IsBased (run setting world events).history
unfolding run
run-IsBased setting world [] based = based
run-IsBased setting world (event ∷ events) based = run-IsBased setting (stepped setting event world) events (stepped-IsBased setting event world based)

pub world_of-IsBased : EveryWriteIsBased
world_of-IsBased setting schedule = run-IsBased setting (opening schedule.clients schedule.seed schedule.passes) schedule.events tt
