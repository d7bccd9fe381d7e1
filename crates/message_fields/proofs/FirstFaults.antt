-- Where no fault is told there is none.
use Rattle.std.proofs.Common.{◌≡◌, Bool, true, false, cond, List, [], ◌∷◌, Option, Some, None, refl}
use Rattle.std.specs.List.{AllByRecursion, fold}
use Rattle.wire_format.specs.declared.fault.WireFault.{WireFault}
use Rattle.message_fields.specs.declared.fault.MessageFault.{MessageFault}
use Rattle.message_fields.specs.declared.message.Message.{Message}
use Rattle.message_fields.specs.Faults.{comes_before, first_of, first_fault, wire_fault}

not_none : (fault : MessageFault) → Some fault ≡ None → ⊥
not_none fault same = cc

-- a fault that is told stays one
stays_told : (faults : List (Option MessageFault)) (fault : MessageFault) → fold first_of (Some fault) faults ≡ None → ⊥
stays_told [] fault none = not_none fault none
stays_told (None ∷ faults) fault none = stays_told faults fault none
stays_told (Some other ∷ faults) fault none =
    either faults (comes_before other fault) other fault none (stays_told faults other) (stays_told faults fault)
  where
    either : (faults : List (Option MessageFault)) (b : Bool) (other fault : MessageFault) →
        fold first_of (cond b (Some other) (Some fault)) faults ≡ None → (fold first_of (Some other) faults ≡ None → ⊥) →
        (fold first_of (Some fault) faults ≡ None → ⊥) → ⊥
    either faults true other fault none one two = one none
    either faults false other fault none one two = two none

-- none of these faults is there
pub none_told : (faults : List (Option MessageFault)) → first_fault faults ≡ None →
    AllByRecursion (λ (fault : Option MessageFault). fault ≡ None) faults
none_told [] none = tt
none_told (None ∷ faults) none = (refl, none_told faults none)
none_told (Some fault ∷ faults) none = absurd (stays_told faults fault none)

-- a message without a fault of its bytes has none
pub no_wire_fault : (message : Message) → wire_fault message ≡ None → message.wire_fault ≡ None
no_wire_fault message none = either message.wire_fault none
  where
    either : (fault : Option WireFault) → wire_fault (record { fields = []; wire_fault = fault; end = 0 }) ≡ None → fault ≡ None
    either None none = refl
    either (Some fault) none = absurd (not_none _ none)
