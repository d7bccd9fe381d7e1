-- What a worker holds, by its parts.
use Rattle.std.proofs.Common.{◌≡◌, ◌↔◌, Bool, IsTrue, Option, Some, Result, sym, ap, subst, ◌∙◌}
use Rattle.std.specs.Option.{option_map}
use Rattle.std.specs.Result.{IfOk}
use Rattle.client_tags.specs.declared.Kind.{Kind}
use Rattle.key_bag.specs.Bags.{Bag}
use Rattle.type_worker.specs.declared.pending.Pending.{Pending}
use Rattle.type_worker.specs.Batches.{Held, Waiting, waiting_of, AllOpen, OpensNow}

-- what a worker of this kind holds
abbrev held_with : Kind → Option Pending → Held
held_with kind pending = record { kind = kind; pending = option_map waiting_of pending }

-- a batch that is as it was is held as it was
pub still_held : (held : Held) (kind : Kind) (inside : Option Pending) (before now : Pending) → held_with kind inside ≡ held → inside ≡ Some before → now ≡ before →
    held_with kind (Some now) ≡ held
still_held held kind inside before now is_held is_before same =
    ap (λ (pending : Pending). held_with kind (Some pending)) same ∙ ap (held_with kind) (sym is_before) ∙ is_held

-- what is held opens where its batch does
pub opens_held : {E : Type 0} (bag : Bag) (held : Held) (kind : Kind) (inside : Option Pending) (pending : Pending) (result : Result Bool E) → held_with kind inside ≡ held →
    inside ≡ Some pending → IfOk result (λ answer. IsTrue answer ↔ AllOpen bag pending.entries) → IfOk result (λ answer. IsTrue answer ↔ OpensNow bag held.pending)
opens_held bag held kind inside pending result is_held is_pending opens =
    subst (λ (waiting : Option Waiting). IfOk result (λ answer. IsTrue answer ↔ OpensNow bag waiting)) is opens
  where
    is : option_map waiting_of (Some pending) ≡ held.pending
    is = ap (option_map waiting_of) (sym is_pending) ∙ ap (λ (of : Held). of.pending) is_held
