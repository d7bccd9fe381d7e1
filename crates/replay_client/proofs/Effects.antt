-- That an event has its effect.
use Rattle.std.proofs.Common.{◌≡◌, ℕ, Bool, true, false, cond, List, ◌++◌, map, Option, Some, None, Result, Ok, Err, refl, sym, ap}
use Rattle.std.proofs.lemmas.List.{append-nil}
use Rattle.std.specs.Prelude.{IfOk, OnErr, is_some, IsSome}
use Rattle.sync_model.specs.declared.event.EventOutcome.{EventOutcome}
use Rattle.sync_model.specs.declared.event.EventOutcome.TheVariants.{Void}
use Rattle.sync_model.specs.declared.fate.Settlement.{Settlement}
use Rattle.sync_model.specs.Clients.{Client, Effect, plain_effect}
use Rattle.sync_model.specs.Worlds.{settlement_of}
use Rattle.replay_client.specs.Happenings.{Happens, HappensAlone}

-- an effect that a test rules out, or lets be
pub voided : {A : Type 0} (test : Bool) (x : A) → test ≡ true → cond test None (Some x) ≡ None
voided test x is = rw is refl

pub made : {A : Type 0} (test : Bool) (x : A) → test ≡ false → cond test None (Some x) ≡ Some x
made test x is = rw is refl

-- an effect that a test lets be is had
pub has_effect : (test : Bool) (effect : Effect) → test ≡ false → IsSome (cond test None (Some effect))
has_effect test effect is = ap is_some (made test effect is)

-- nothing happens
pub nothing : (number : ℕ) (effect : Option Effect) (outcome : EventOutcome) (client new : Client) (before settled : List Settlement) → effect ≡ None
    → outcome ≡ Void → new ≡ client → settled ≡ before → Happens number effect outcome client new before settled
unfolding Happens
nothing number effect outcome client new before settled is is_void is_new is_settled = rw is (is_void, is_new, is_settled)

-- an effect happens
pub happens : (number : ℕ) (found : Option Effect) (effect : Effect) (outcome : EventOutcome) (client new : Client) (before settled : List Settlement) → found ≡ Some effect
    → outcome ≡ effect.outcome → new ≡ effect.client → settled ≡ before ++ map (settlement_of number effect.kind) effect.notes → Happens number found outcome client new before settled
unfolding Happens
happens number found effect outcome client new before settled is is_outcome is_new is_settled = rw is (is_outcome, is_new, is_settled)

-- nothing happens, whatever was settled
pub alone_void : (effect : Option Effect) (client new : Client) → effect ≡ None → new ≡ client → HappensAlone effect Void client new
alone_void effect client new is is_new = λ number settled. nothing number effect Void client new settled settled is refl is_new refl

-- an effect that settles nothing happens
pub alone : (found : Option Effect) (after : Client) (told outcome : EventOutcome) (client new : Client) → found ≡ Some (plain_effect after told)
    → outcome ≡ told → new ≡ after → HappensAlone found outcome client new
alone found after told outcome client new is is_told is_new =
    λ number settled. happens number found (plain_effect after told) outcome client new settled settled is is_told is_new (sym (append-nil settled))

-- what holds of a result follows from what is known of it
pub if_ok_weaker : {A E : Type 0} (result : Result A E) (P Q : A → Type 0) → ((value : A) → P value → Q value) → IfOk result P → IfOk result Q
if_ok_weaker (Ok value) P Q follows holds = follows value holds
if_ok_weaker (Err fault) P Q follows holds = tt

-- what holds in any case holds of a fault
pub on_err_holds : {A E P : Type 0} (result : Result A E) → P → OnErr result P
on_err_holds (Ok value) holds = tt
on_err_holds (Err fault) holds = holds

-- what follows at a fault from what is known there
pub on_err_weaker : {A E P Q : Type 0} (result : Result A E) → (P → Q) → OnErr result P → OnErr result Q
on_err_weaker (Ok value) follows holds = tt
on_err_weaker (Err fault) follows holds = follows holds
